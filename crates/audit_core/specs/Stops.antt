-- What stops a reader of lines, or a writer, stops an audit.
use Rattle.tcs_io.specs.declared.writing.SinkStop.{SinkStop}
use Rattle.tcs_io.specs.declared.writing.SinkStop.TheVariants as sinks
use Rattle.schedule_text.specs.declared.lines.LinesStop.{LinesStop}
use Rattle.schedule_text.specs.declared.lines.LinesStop.TheVariants as lines
use Rattle.audit_core.specs.declared.stops.AuditStop.{AuditStop}
use Rattle.audit_core.specs.declared.stops.AuditStop.TheVariants as stops

abbrev pub stop_of_lines : LinesStop → AuditStop
stop_of_lines lines.ReadFault = stops.ReadFault
stop_of_lines lines.OutOfMemory = stops.OutOfMemory

abbrev pub stop_of_sink : SinkStop → AuditStop
stop_of_sink sinks.Failed = stops.WriteFault
stop_of_sink sinks.OutOfMemory = stops.OutOfMemory
