-- What stops a reader of lines, or a writer, stops a restore.
use Rattle.tcs_io.specs.declared.writing.SinkStop.{SinkStop}
use Rattle.tcs_io.specs.declared.writing.SinkStop.TheVariants as sinks
use Rattle.schedule_text.specs.declared.lines.LinesStop.{LinesStop}
use Rattle.schedule_text.specs.declared.lines.LinesStop.TheVariants as lines
use Rattle.restore_core.specs.declared.stops.RestoreStop.{RestoreStop}
use Rattle.restore_core.specs.declared.stops.RestoreStop.TheVariants as stops

abbrev pub stop_of_lines : LinesStop → RestoreStop
stop_of_lines lines.ReadFault = stops.ReadFault
stop_of_lines lines.OutOfMemory = stops.OutOfMemory

abbrev pub stop_of_sink : SinkStop → RestoreStop
stop_of_sink sinks.Failed = stops.WriteFault
stop_of_sink sinks.OutOfMemory = stops.OutOfMemory
