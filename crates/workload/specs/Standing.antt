-- What a step of a generated run tells, where the run stands between two events, and how it stops. No clause of `generate` and `soak` cites this module.
use Rattle.std.specs.Prelude.{◌≡◌, ℕ, suc, ◌+◌, ◌-◌, ◌≤◌, Bool, true, false, ◌++◌, length, drop}
use Rattle.tcs_terms.specs.declared.inputs.Event.{Event}
use Rattle.protocol.specs.Limit.{Progress}
use Rattle.protocol_laws.specs.Promises.{world_of}
use Rattle.world.specs.WorldState.{WorldState}
use Rattle.world.specs.declared.happenings.Happening.{Happening}
use Rattle.generator.specs.Courses.{CourseState, numbers_behind}
use Rattle.generated_runs.specs.Setup.{setup}
use Rattle.generated_runs.specs.Runs.{generated, next, next_step, serial_step, is_live, heard, with_answer, KeepsWithin, IsFullAt}
use Rattle.workload.specs.Stops.{StopsAt}
use Rattle.workload.specs.declared.stops.GenStop.{GenStop}
use Rattle.workload.specs.declared.stops.GenStop.TheVariants as stops

-- what the generator keeps, where the last so many notes and so many messages came of an event
abbrev pub told_of : (old new : Progress) → Happening → Bool → CourseState → CourseState
told_of old new told reads c = record c {
  queue = c.queue ++ numbers_behind (length (world_of old).messages) told.sent;
  transfer = heard reads (drop (length (world_of new).history - told.notes) (world_of new).history) c.transfer;
}

-- an event was taken: the run goes on, and the step told how many notes and messages there are
pub record Took (old : Progress) (event : Event) (told : Happening) (new : Progress) : Type 0 where
  pub run : new ≡ (serial_step old event).after
  pub live : is_live new ≡ true
  pub notes : told.notes ≤ length (world_of new).history
  pub sent : length (world_of new).messages ≡ length (world_of old).messages + told.sent
  pub course : (reads : Bool) (c : CourseState) → with_answer (length (world_of old).messages) reads (serial_step old event).answer c ≡ told_of old new told reads c

-- the world is the definition's after so many events, and the run goes on
pub record WorldStandsAt (seed count place : ℕ) (world : WorldState) : Type 0 where
  pub run_is : world.progress ≡ (generated seed count place).progress
  pub setup_is : world.setup ≡ setup
  pub lives : world.spent ≡ false
  pub within : KeepsWithin seed count place

-- so is what the generator keeps
pub record StandsAt (seed count place : ℕ) (course : CourseState) (world : WorldState) : Type 0 where
  pub course_is : course ≡ (generated seed count place).course
  pub world_is : WorldStandsAt seed count place world

-- what the generator keeps once the next event was chosen
abbrev pub IsNext : (seed count place : ℕ) → CourseState → Type 0
IsNext seed count place course = course ≡ (next count (suc place) (generated seed count place)).course

-- the next event was not taken
abbrev pub StopsBehind : (seed count place : ℕ) → GenStop → Type 0
StopsBehind seed count place stop = StopsAt (next_step count (suc place) (generated seed count place)).answer stop

-- the run passes the limit at some place, by this sum; a fault of the sink is told by its count
abbrev pub StopsFrom : (seed count : ℕ) → GenStop → Type 0
StopsFrom seed count stops.WriteFault = Unit {0}
StopsFrom seed count (stops.Full sum) = (place : ℕ) × IsFullAt seed count place sum
StopsFrom seed count stops.OutOfMemory = Unit {0}

-- the same, where nothing is written
abbrev pub RunStops : (seed count : ℕ) → GenStop → Type 0
RunStops seed count stops.WriteFault = ⊥
RunStops seed count (stops.Full sum) = (place : ℕ) × IsFullAt seed count place sum
RunStops seed count stops.OutOfMemory = Unit {0}
