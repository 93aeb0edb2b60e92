-- What `replay` answers, and what it has read and written by then.
use Rattle.std.specs.Prelude.{◌≡◌, ◌⊎◌, ℕ, ◌+◌, ◌≤◌, false, List, [], ◌∷◌, ◌++◌, length, IsTrue, Option, Some, Result, Ok, Err}
use Rattle.tcs_io.specs.Faults.{Rose}
use Rattle.tcs_terms.specs.declared.inputs.Event.{Event}
use Rattle.text_words.specs.declared.words.Reason.{Reason}
use Rattle.tcs_terms.specs.Setups.{Deployment}
use Rattle.schedule_text.specs.declared.limits.TheConstants.{LINE_LIMIT}
use Rattle.schedule_text.specs.declared.lines.Got.TheVariants.{Whole}
use Rattle.schedule_text.specs.declared.reader.LineItem.{LineItem}
use Rattle.schedule_text.specs.declared.reader.LineItem.TheVariants as kinds
use Rattle.schedule_text.specs.Bytes.{IsText, Taken, IsNext, FirstBad, events_on, setups_on}
use Rattle.schedule_text.specs.Lines.{has_feed}
use Rattle.schedule_text.specs.Schedules.{Progress, line_reading}
use Rattle.protocol.specs.Limit.Answer.{SoupFull}
use Rattle.protocol_laws.specs.Promises.{KeepsItsPromises}
use Rattle.replay_core.specs.declared.stops.ReplayStop.{ReplayStop}
use Rattle.replay_core.specs.declared.stops.ReplayStop.TheVariants as stops
use Rattle.replay_core.specs.Trace.{tests_of, run_of, answer_to, is_live, trace, trace_front}

-- ---- what belongs to the lines so far

-- what stands of the trace once a setup is whole, and before
abbrev pub front_of : List Deployment → List Event → List ℕ
front_of [] es = []
front_of (d ∷ ds) es = trace_front d es

-- what stands of it once these lines were worked through: nothing before the line `events`
abbrev pub shown : List LineItem → List ℕ
shown is = front_of (setups_on is) (events_on is)

-- the run keeps within the limit, and keeps its promises, by the certifier of the rule that the schedule names
pub record Kept (d : Deployment) (es : List Event) : Type 0 where
  pub within : IsTrue (is_live (run_of d es))
  pub promises : KeepsItsPromises (tests_of d.rule) d es (run_of d es)

-- the same of the run of these lines, once the setup is whole
abbrev pub KeptBy : List Deployment → List Event → Type 0
KeptBy [] es = Unit {0}
KeptBy (d ∷ ds) es = Kept d es

abbrev pub KeptOn : List LineItem → Type 0
KeptOn is = KeptBy (setups_on is) (events_on is)

-- the run of these lines keeps within the limit
abbrev pub WithinBy : List Deployment → List Event → Type 0
WithinBy [] es = Unit {0}
WithinBy (d ∷ ds) es = IsTrue (is_live (run_of d es))

abbrev pub WithinOn : List LineItem → Type 0
WithinOn is = WithinBy (setups_on is) (events_on is)

-- ---- what was read

-- These lines were worked through, and behind them stands the line in work. Of it, and of what follows, at most 4,097
-- bytes were read; the source has the others left.
pub record Worked (bytes left : List ℕ) (is : List LineItem) (p : Progress) (behind : List ℕ) : Type 0 where
  pub lines : List (List ℕ)
  pub taken : Taken bytes lines is p behind
  pub ahead : List ℕ
  pub read : behind ≡ ahead ++ left
  pub few : length ahead ≤ LINE_LIMIT + 1

-- the line in work stands whole, and is this
pub record InWork (p : Progress) (behind : List ℕ) (item : LineItem) : Type 0 where
  pub line : List ℕ
  pub rest : List ℕ
  pub next : Progress
  pub stands : IsNext behind Whole line rest
  pub read : line_reading p Whole line ≡ Ok (item, next)

-- Behind these lines stands an event with which the frames pass the limit, by this sum; up to it the run keeps within
-- the limit.
pub record FirstFull (bytes : List ℕ) (sum : ℕ) (is : List LineItem) : Type 0 where
  pub lines : List (List ℕ)
  pub progress : Progress
  pub behind : List ℕ
  pub taken : Taken bytes lines is progress behind
  pub event : Event
  pub line : InWork progress behind (kinds.Event event)
  pub setup : Deployment
  pub begun : setups_on is ≡ setup ∷ []
  pub within : IsTrue (is_live (run_of setup (events_on is)))
  pub full : answer_to setup (events_on is) event ≡ SoupFull sum

-- ---- how it ends

-- Ok: the bytes are the text of a schedule, whose run keeps within the limit and keeps its promises; all was read, and
-- the whole trace was written.
pub record Replays (bytes left written : List ℕ) : Type 0 where
  pub setup : Deployment
  pub events : List Event
  pub text : IsText bytes setup events
  pub kept : Kept setup events
  pub at_end : left ≡ []
  pub whole : written ≡ trace setup events

-- Bad: this line is the first outside the grammar, for this reason; the lines before it were worked through.
pub record StopsAtBad (bytes left written : List ℕ) (number : ℕ) (reason : Reason) : Type 0 where
  pub items : List LineItem
  pub progress : Progress
  pub behind : List ℕ
  pub worked : Worked bytes left items progress behind
  pub bad : FirstBad bytes number reason items
  pub kept : KeptOn items
  pub so_far : written ≡ shown items

-- Full: the event on the line in work is the first with which the frames pass the limit, by this sum; the lines before
-- it were worked through.
pub record StopsAtFull (bytes left written : List ℕ) (sum : ℕ) : Type 0 where
  pub items : List LineItem
  pub progress : Progress
  pub behind : List ℕ
  pub worked : Worked bytes left items progress behind
  pub full : FirstFull bytes sum items
  pub kept : KeptOn items
  pub so_far : written ≡ shown items

-- A failing source: no line stands whole behind those that were worked through.
pub record StopsAtRead (bytes left written : List ℕ) : Type 0 where
  pub items : List LineItem
  pub progress : Progress
  pub behind : List ℕ
  pub worked : Worked bytes left items progress behind
  pub unfinished : has_feed worked.ahead ≡ false
  pub kept : KeptOn items
  pub so_far : written ≡ shown items

-- what was written of the line in work is a part of what belongs to it
pub record OfLine (items : List LineItem) (progress : Progress) (behind part : List ℕ) : Type 0 where
  pub item : LineItem
  pub line : InWork progress behind item
  pub kept : KeptOn (items ++ item ∷ [])
  pub rest : List ℕ
  pub belongs : shown (items ++ item ∷ []) ≡ shown items ++ (part ++ rest)

-- what was written behind all lines is a part of the last two lines of the trace
pub record OfTail (bytes : List ℕ) (items : List LineItem) (progress : Progress) (behind part : List ℕ) : Type 0 where
  pub setup : Deployment
  pub text : IsText bytes setup (events_on items)
  pub at_end : behind ≡ []
  pub rest : List ℕ
  pub belongs : trace setup (events_on items) ≡ shown items ++ (part ++ rest)

-- A failing sink, or want of memory: the lines before the one in work were worked through, and of what belongs to that
-- one a part at most was written.
pub record StopsWithin (bytes left written : List ℕ) : Type 0 where
  pub items : List LineItem
  pub progress : Progress
  pub behind : List ℕ
  pub worked : Worked bytes left items progress behind
  pub kept : KeptOn items
  pub part : List ℕ
  pub so_far : written ≡ shown items ++ part
  pub most : (part ≡ []) ⊎ OfLine items progress behind part ⊎ OfTail bytes items progress behind part

-- what each stop says of the bytes, of what is left of them, and of what was written
abbrev pub Stopped : List ℕ → List ℕ → List ℕ → ReplayStop → Type 0
Stopped bytes left written (stops.Bad number reason) = StopsAtBad bytes left written number reason
Stopped bytes left written stops.ReadFault = StopsAtRead bytes left written
Stopped bytes left written stops.WriteFault = StopsWithin bytes left written
Stopped bytes left written (stops.Full sum) = StopsAtFull bytes left written sum
Stopped bytes left written stops.OutOfMemory = StopsWithin bytes left written

-- ---- the source and the sink behind it

-- Ok: the source tells what is left, and the sink holds what it held before and what was written.
pub record Finishes (bytes before : List ℕ) (left held : Option (List ℕ)) : Type 0 where
  pub rest : List ℕ
  pub told : left ≡ Some rest
  pub written : List ℕ
  pub holds : held ≡ Some (before ++ written)
  pub replays : Replays bytes rest written

-- A stop: they do so as well, and the stop says the rest.
pub record Ends (bytes before : List ℕ) (left held : Option (List ℕ)) (stop : ReplayStop) : Type 0 where
  pub rest : List ℕ
  pub told : left ≡ Some rest
  pub written : List ℕ
  pub holds : held ≡ Some (before ++ written)
  pub stopped : Stopped bytes rest written stop

-- ---- which answer comes

-- no fault was counted
abbrev pub Stayed : ℕ → ℕ → Type 0
Stayed before after = Rose before after → ⊥

-- all was replayed, or memory ran out
abbrev pub ReplaysFully : {X : Type 0} → Result X ReplayStop → Type 0
ReplaysFully (Ok done) = Unit {0}
ReplaysFully (Err told) = told ≡ stops.OutOfMemory

-- this stop came, or memory ran out
abbrev pub StopsBy : {X : Type 0} → ReplayStop → Result X ReplayStop → Type 0
StopsBy stop (Ok done) = ⊥
StopsBy stop (Err told) = (told ≡ stop) ⊎ (told ≡ stops.OutOfMemory)
