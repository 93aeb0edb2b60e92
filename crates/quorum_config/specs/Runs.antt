-- What `quorum` answers, and what it has read and written by then.
use Rattle.std.specs.Prelude.{◌≡◌, ◌⊎◌, ℕ, ◌+◌, ◌≤◌, false, List, [], ◌∷◌, ◌++◌, length, Option, Some, None, Result, Ok, Err}
use Rattle.std.specs.List.{flat_map, AllByRecursion}
use Rattle.tcs_io.specs.Faults.{Rose}
use Rattle.schedule_text.specs.declared.limits.TheConstants.{LINE_LIMIT}
use Rattle.schedule_text.specs.declared.lines.Got.{Got}
use Rattle.schedule_text.specs.declared.lines.Got.TheVariants.{Whole, Cut, Long, Nothing}
use Rattle.schedule_text.specs.Bytes.{IsNext}
use Rattle.schedule_text.specs.Lines.{IsLine, has_feed}
use Rattle.schedule_text.specs.Text.{with_feed}
use Rattle.quorum_protocol.specs.declared.terms.Event.{Event}
use Rattle.quorum_protocol.specs.Theorem.{Agree, WasProposed, IsClimbed}
use Rattle.quorum_protocol.specs.World.{history, run}
use Rattle.quorum_config.specs.declared.places.Place.{Place}
use Rattle.quorum_config.specs.declared.places.Place.TheVariants as places
use Rattle.quorum_config.specs.declared.places.Progress.{Progress}
use Rattle.quorum_config.specs.declared.places.Item.{Item}
use Rattle.quorum_config.specs.declared.stops.QuorumStop.{QuorumStop}
use Rattle.quorum_config.specs.declared.stops.QuorumStop.TheVariants as stops
use Rattle.quorum_config.specs.Readings.{line_reading, reads, events_of, at_start}
use Rattle.quorum_config.specs.Texts.{end_text, run_front, run_text}

-- ---- which bytes are an input

-- The bytes begin with these lines, each with its line feed, and these bytes stand behind them. One after the other
-- the lines may stand where they stand: the events on them, and where a reader then stands.
pub record Taken (bytes : List ℕ) (lines : List (List ℕ)) (es : List Event) (p : Progress) (behind : List ℕ) : Type 0 where
  pub each : AllByRecursion IsLine lines
  pub front : bytes ≡ flat_map with_feed lines ++ behind
  pub read : reads at_start lines ≡ Some (es, p)

-- the bytes are the lines of an input over so many acceptors, with these events, and no others
pub record IsInput (bytes : List ℕ) (acceptors : ℕ) (es : List Event) : Type 0 where
  pub lines : List (List ℕ)
  pub progress : Progress
  pub taken : Taken bytes lines es progress []
  pub ended : progress.place ≡ places.Ended
  pub over : progress.acceptors ≡ acceptors

-- what a reader does with what comes next: a line may stand where it stands, all else may not
abbrev pub next_reading : Progress → Got → List ℕ → Option (Item × Progress)
next_reading p Whole line = line_reading p line
next_reading p Cut line = None
next_reading p Long line = None
next_reading p Nothing line = None

-- an input ends there
abbrev pub IsEnd : Got → Place → Type 0
IsEnd got place = (got ≡ Nothing) × (place ≡ places.Ended)

-- The line of this number is the first that may not stand where it stands; before it stand lines with these events. The
-- lines count from 1. One that is missing, or is too long, or follows the end is bad too.
pub record FirstBad (bytes : List ℕ) (number : ℕ) (es : List Event) : Type 0 where
  pub lines : List (List ℕ)
  pub progress : Progress
  pub behind : List ℕ
  pub taken : Taken bytes lines es progress behind
  pub numbered : number ≡ length lines + 1
  pub got : Got
  pub line : List ℕ
  pub rest : List ℕ
  pub next : IsNext behind got line rest
  pub refused : next_reading progress got line ≡ None
  pub not_the_end : IsEnd got progress.place → ⊥

-- ---- what holds of its run

-- any two stored notes of one shard and epoch have equal configurations; the configuration of each was proposed before
-- it; and before one of an epoch above 2 stands one of the same proposer and shard with the epoch below
pub record KeepsItsPromises (acceptors : ℕ) (es : List Event) : Type 0 where
  pub agree : Agree (history acceptors es)
  pub proposed : (front rest : List Event) (e : Event) → es ≡ front ++ e ∷ rest → WasProposed acceptors front e
  pub climbed : (front rest : List Event) (e : Event) → es ≡ front ++ e ∷ rest → IsClimbed acceptors front e

-- what stands of the text of a run: nothing before the line `events`, and all but the last line behind it
abbrev pub shown_at : Place → (acceptors : ℕ) → List Event → List ℕ
shown_at places.Version acceptors es = []
shown_at places.Acceptors acceptors es = []
shown_at places.Proposers acceptors es = []
shown_at places.Shards acceptors es = []
shown_at places.Configs acceptors es = []
shown_at places.Begin acceptors es = []
shown_at places.Events acceptors es = run_front acceptors es
shown_at places.Ended acceptors es = run_front acceptors es

abbrev pub shown : Progress → List Event → List ℕ
shown p es = shown_at p.place p.acceptors es

-- ---- what was read and written

-- These lines were taken, and behind them stands the line in work. Of it, and of what follows, at most 4,097 bytes were
-- read; the source has the others left. The run so far keeps its promises.
pub record Worked (bytes left : List ℕ) (es : List Event) (p : Progress) (behind : List ℕ) : Type 0 where
  pub lines : List (List ℕ)
  pub taken : Taken bytes lines es p behind
  pub ahead : List ℕ
  pub read : behind ≡ ahead ++ left
  pub few : length ahead ≤ LINE_LIMIT + 1
  pub kept : KeepsItsPromises p.acceptors es

-- Ok: the bytes are an input; all was read, and the text of its run was written, which keeps its promises.
pub record Runs (bytes left written : List ℕ) : Type 0 where
  pub acceptors : ℕ
  pub events : List Event
  pub input : IsInput bytes acceptors events
  pub kept : KeepsItsPromises acceptors events
  pub at_end : left ≡ []
  pub whole : written ≡ run_text acceptors events

-- Bad: this line is the first that may not stand where it stands; what belongs to the lines before it was written.
pub record StopsAtBad (bytes left written : List ℕ) (number : ℕ) : Type 0 where
  pub events : List Event
  pub progress : Progress
  pub behind : List ℕ
  pub worked : Worked bytes left events progress behind
  pub bad : FirstBad bytes number events
  pub so_far : written ≡ shown progress events

-- A failing source: no line stands whole behind those that were taken.
pub record StopsAtRead (bytes left written : List ℕ) : Type 0 where
  pub events : List Event
  pub progress : Progress
  pub behind : List ℕ
  pub worked : Worked bytes left events progress behind
  pub unfinished : has_feed worked.ahead ≡ false
  pub so_far : written ≡ shown progress events

-- what was written of the line in work is a part of what belongs to it
pub record OfLine (es : List Event) (p : Progress) (behind part : List ℕ) : Type 0 where
  pub line : List ℕ
  pub after : List ℕ
  pub item : Item
  pub next : Progress
  pub stands : IsNext behind Whole line after
  pub read : line_reading p line ≡ Some (item, next)
  pub rest : List ℕ
  pub belongs : shown next (es ++ events_of item) ≡ shown p es ++ (part ++ rest)

-- what was written behind all lines is a part of the last line of the text
pub record OfTail (es : List Event) (p : Progress) (behind part : List ℕ) : Type 0 where
  pub ended : p.place ≡ places.Ended
  pub at_end : behind ≡ []
  pub rest : List ℕ
  pub belongs : run_text p.acceptors es ≡ shown p es ++ (part ++ rest)

-- A failing sink, or want of memory: of what belongs to the line in work a part at most was written.
pub record StopsWithin (bytes left written : List ℕ) : Type 0 where
  pub events : List Event
  pub progress : Progress
  pub behind : List ℕ
  pub worked : Worked bytes left events progress behind
  pub part : List ℕ
  pub so_far : written ≡ shown progress events ++ part
  pub most : (part ≡ []) ⊎ OfLine events progress behind part ⊎ OfTail events progress behind part

-- what each stop says of the bytes, of what is left of them, and of what was written
abbrev pub Stopped : List ℕ → List ℕ → List ℕ → QuorumStop → Type 0
Stopped bytes left written (stops.Bad number) = StopsAtBad bytes left written number
Stopped bytes left written stops.ReadFault = StopsAtRead bytes left written
Stopped bytes left written stops.WriteFault = StopsWithin bytes left written
Stopped bytes left written stops.OutOfMemory = StopsWithin bytes left written

-- Ok: the source tells what is left, and the sink holds what it held before and what was written.
pub record Finishes (bytes before : List ℕ) (left held : Option (List ℕ)) : Type 0 where
  pub rest : List ℕ
  pub told : left ≡ Some rest
  pub written : List ℕ
  pub holds : held ≡ Some (before ++ written)
  pub runs : Runs bytes rest written

-- A stop: they do so as well, and the stop says the rest.
pub record Ends (bytes before : List ℕ) (left held : Option (List ℕ)) (stop : QuorumStop) : Type 0 where
  pub rest : List ℕ
  pub told : left ≡ Some rest
  pub written : List ℕ
  pub holds : held ≡ Some (before ++ written)
  pub stopped : Stopped bytes rest written stop

-- ---- which answer comes

-- no fault was counted
abbrev pub Stayed : ℕ → ℕ → Type 0
Stayed before after = Rose before after → ⊥

-- all was read and written, or memory ran out
abbrev pub RunsFully : {X : Type 0} → Result X QuorumStop → Type 0
RunsFully (Ok done) = Unit {0}
RunsFully (Err told) = told ≡ stops.OutOfMemory

-- this stop came, or memory ran out
abbrev pub StopsBy : {X : Type 0} → QuorumStop → Result X QuorumStop → Type 0
StopsBy stop (Ok done) = ⊥
StopsBy stop (Err told) = (told ≡ stop) ⊎ (told ≡ stops.OutOfMemory)
