-- What the steps of a replay answer. No clause of `replay` cites this module.
use Rattle.std.specs.Prelude.{◌≡◌, ℕ, List, Option, Some, None, Result, Ok, Err}
use Rattle.tcs_io.specs.declared.writing.SinkStop.{SinkStop}
use Rattle.tcs_io.specs.declared.writing.SinkStop.TheVariants as sinks
use Rattle.tcs_terms.specs.declared.inputs.Result1.{Result1}
use Rattle.schedule_text.specs.declared.lines.LinesStop.{LinesStop}
use Rattle.schedule_text.specs.declared.lines.LinesStop.TheVariants as lines
use Rattle.wire_frame.specs.Spelling.{spell}
use Rattle.protocol.specs.World.{Sent}
use Rattle.protocol.specs.Limit.{Answer}
use Rattle.protocol.specs.Limit.Answer.{Happens, SoupFull}
use Rattle.replay_core.specs.declared.runs.RunStop.{RunStop}
use Rattle.replay_core.specs.declared.runs.RunStop.TheVariants as runs
use Rattle.replay_core.specs.declared.stops.ReplayStop.{ReplayStop}
use Rattle.replay_core.specs.declared.stops.ReplayStop.TheVariants as stops

-- ---- stops, as a replay tells them

abbrev pub stop_of_lines : LinesStop → ReplayStop
stop_of_lines lines.ReadFault = stops.ReadFault
stop_of_lines lines.OutOfMemory = stops.OutOfMemory

abbrev pub stop_of_sink : SinkStop → ReplayStop
stop_of_sink sinks.Failed = stops.WriteFault
stop_of_sink sinks.OutOfMemory = stops.OutOfMemory

abbrev pub stop_of_run : RunStop → ReplayStop
stop_of_run (runs.Full sum) = stops.Full sum
stop_of_run runs.OutOfMemory = stops.OutOfMemory

-- ---- what a run answers

-- the answer is the definition's, unless memory ran out
abbrev pub Tells : Result Result1 RunStop → Answer → Type 0
Tells (Ok told) (Happens result notes sent) = told ≡ result
Tells (Ok told) (SoupFull bytes) = ⊥
Tells (Err (runs.Full sum)) (Happens result notes sent) = ⊥
Tells (Err (runs.Full sum)) (SoupFull bytes) = sum ≡ bytes
Tells (Err runs.OutOfMemory) answer = Unit {0}

-- what a run tells of a message is its ends and its frame, and a message is told only where there is one
abbrev pub IsPosted : Option Sent → (from to : ℕ) → (frame : List ℕ) → Type 0
IsPosted None from to frame = ⊥
IsPosted (Some s) from to frame = (from ≡ s.from) × (to ≡ s.to) × (frame ≡ spell s.message)
