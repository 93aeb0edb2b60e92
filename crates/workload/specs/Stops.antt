-- Stops, as a generated run tells them.
use Rattle.std.specs.Prelude.{◌≡◌}
use Rattle.tcs_io.specs.declared.writing.SinkStop.{SinkStop}
use Rattle.tcs_io.specs.declared.writing.SinkStop.TheVariants as sinks
use Rattle.world.specs.declared.happenings.Stop.{Stop}
use Rattle.world.specs.declared.happenings.Stop.TheVariants as runs
use Rattle.protocol.specs.Limit.{Answer}
use Rattle.protocol.specs.Limit.Answer.{SoupFull}
use Rattle.workload.specs.declared.stops.GenStop.{GenStop}
use Rattle.workload.specs.declared.stops.GenStop.TheVariants as stops

abbrev pub stop_of_sink : SinkStop → GenStop
stop_of_sink sinks.Failed = stops.WriteFault
stop_of_sink sinks.OutOfMemory = stops.OutOfMemory

abbrev pub stop_of_run : Stop → GenStop
stop_of_run (runs.SoupFull sum) = stops.Full sum
stop_of_run runs.OutOfMemory = stops.OutOfMemory

-- a step that was not taken: the soup was full, or memory ran out
abbrev pub StopsAt : Answer → GenStop → Type 0
StopsAt answer stops.WriteFault = ⊥
StopsAt answer (stops.Full sum) = answer ≡ SoupFull sum
StopsAt answer stops.OutOfMemory = Unit {0}
