-- The generated schedule of a seed and a count, and its run.
use Rattle.std.specs.Prelude.{◌≡◌, ℕ, zero, suc, ◌<◌, Bool, true, false, List, [], ◌∷◌, ◌++◌, length, IsTrue}
use Rattle.cert_serial.specs.Serial.{serial}
use Rattle.tcs_terms.specs.declared.inputs.Event.{Event}
use Rattle.tcs_terms.specs.declared.inputs.Note.{Note}
use Rattle.protocol.specs.Limit.{Progress, Answer, Step, limited_step}
use Rattle.protocol.specs.Limit.Answer.{Happens, SoupFull}
use Rattle.protocol.specs.Limit.Progress.{Live, Ended}
use Rattle.protocol.specs.World.{World, first_world}
use Rattle.protocol_laws.specs.Promises.{world_of}
use Rattle.generator.specs.declared.doings.Doing.{Doing}
use Rattle.generator.specs.declared.doings.Doing.TheVariants as doings
use Rattle.generator.specs.declared.transfers.Transfer.{Transfer}
use Rattle.generator.specs.Courses.{CourseState, Chosen, first_course, chosen, with_notes, numbers_behind}
use Rattle.generated_runs.specs.Setup.{setup}
use Rattle.generated_runs.specs.Sights.{waits_in, event_of}

-- what the generator keeps, and the run at its side
pub record State : Type 0 where
  pub course : CourseState
  pub progress : Progress

-- before the first event
abbrev pub first_state : ℕ → State
first_state seed = record { course = first_course seed; progress = Live (first_world setup) 0 0 }

-- what happens next in this world, at a place of a schedule of so many events
abbrev pub next_in : World → ℕ → ℕ → CourseState → Chosen
next_in w count place c = chosen count place (waits_in w) (length w.messages) c

abbrev pub next : ℕ → ℕ → State → Chosen
next count place s = next_in (world_of s.progress) count place s.course

-- the event that this is
abbrev pub next_event : ℕ → ℕ → State → Event
next_event count place s = event_of (world_of s.progress) (next count place s).doing

-- what the run does with an event
unfoldable pub serial_step : Progress → Event → Step
serial_step p e = limited_step serial 1 p e

abbrev pub next_step : ℕ → ℕ → State → Step
next_step count place s = serial_step s.progress (next_event count place s)

-- whether this reads an account
abbrev pub is_read : Doing → Bool
is_read doings.Stop = false
is_read doings.FirstMove = false
is_read doings.TakeOver = false
is_read doings.SecondMove = false
is_read doings.Nudge = false
is_read (doings.Deliver number) = false
is_read (doings.Read name) = true
is_read (doings.Certify payload) = false

-- A reading that acts notes what was read, for the transfer; one that does not act notes nothing, and drops it.
abbrev pub heard : Bool → List Note → Transfer → Transfer
heard true notes t = with_notes t notes
heard false notes t = t

-- the numbers of the messages of an event end the queue, and a transfer hears what was read
abbrev pub with_answer : ℕ → Bool → Answer → CourseState → CourseState
with_answer before read (Happens result notes sent) c = record c {
  queue = c.queue ++ numbers_behind before (length sent);
  transfer = heard read notes c.transfer;
}
with_answer before read (SoupFull bytes) c = c

-- what is kept once an event has happened
abbrev pub after : ℕ → ℕ → State → State
after count place s = record {
  course = with_answer (length (world_of s.progress).messages) (is_read (next count place s).doing) (next_step count place s).answer (next count place s).course;
  progress = (next_step count place s).after;
}

-- after the first so many events of a schedule
unfoldable pub generated : ℕ → ℕ → ℕ → State
generated seed count zero = first_state seed
generated seed count (suc place) = after count (suc place) (generated seed count place)

-- these events
unfoldable pub events_until : ℕ → ℕ → ℕ → List Event
events_until seed count zero = []
events_until seed count (suc place) = events_until seed count place ++ next_event count (suc place) (generated seed count place) ∷ []

-- the schedule
abbrev pub schedule : ℕ → ℕ → List Event
schedule seed count = events_until seed count count

abbrev pub is_live : Progress → Bool
is_live (Live w events bytes) = true
is_live (Ended w events bytes) = false

-- the run of the first so many events keeps within the limit
abbrev pub KeepsWithin : ℕ → ℕ → ℕ → Type 0
KeepsWithin seed count place = IsTrue (is_live (generated seed count place).progress)

-- Behind this place stands the first event with which the frames would pass the limit, by this sum.
pub record IsFullAt (seed count place sum : ℕ) : Type 0 where
  pub within_count : place < count
  pub within : KeepsWithin seed count place
  pub full : (next_step count (suc place) (generated seed count place)).answer ≡ SoupFull sum
