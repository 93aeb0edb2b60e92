-- Where a run stands between two lines, and how its stops come from those below. No clause of `quorum` cites this module.
use Rattle.std.specs.Prelude.{◌≡◌, ℕ, ◌+◌, ◌≤◌, List, [], ◌∷◌, ◌++◌, length, Bool, true, false, Option, Some, None}
use Rattle.tcs_io.specs.declared.writing.SinkStop.{SinkStop}
use Rattle.tcs_io.specs.declared.writing.SinkStop.TheVariants as sinks
use Rattle.schedule_text.specs.declared.limits.TheConstants.{LINE_LIMIT}
use Rattle.schedule_text.specs.declared.lines.LinesStop.{LinesStop}
use Rattle.schedule_text.specs.declared.lines.LinesStop.TheVariants as lines
use Rattle.quorum_protocol.specs.declared.terms.Event.{Event}
use Rattle.quorum_protocol.specs.World.{World, first_world, run, step}
use Rattle.quorum_config.specs.declared.places.Place.{Place}
use Rattle.quorum_config.specs.declared.places.Place.TheVariants as places
use Rattle.quorum_config.specs.declared.places.Progress.{Progress}
use Rattle.quorum_config.specs.declared.places.Item.{Item}
use Rattle.quorum_config.specs.declared.places.Item.TheVariants as items
use Rattle.quorum_config.specs.declared.stops.QuorumStop.{QuorumStop}
use Rattle.quorum_config.specs.declared.stops.QuorumStop.TheVariants as stops
use Rattle.quorum_config.specs.Readings.{at_start, line_reading}
use Rattle.quorum_config.specs.Walks.{Walks}
use Rattle.quorum_config.specs.Runs.{Taken, shown}
use Rattle.quorum_config.specs.Texts.{head_text, happening_text}

-- ---- stops, as `quorum` tells them

abbrev pub stop_of_lines : LinesStop → QuorumStop
stop_of_lines lines.ReadFault = stops.ReadFault
stop_of_lines lines.OutOfMemory = stops.OutOfMemory

abbrev pub stop_of_sink : SinkStop → QuorumStop
stop_of_sink sinks.Failed = stops.WriteFault
stop_of_sink sinks.OutOfMemory = stops.OutOfMemory

-- ---- what is kept

-- where the reader stands, and the world of the events so far
pub record State : Type 0 where
  pub progress : Progress
  pub world : World

abbrev pub first_state : State
first_state = record { progress = at_start; world = first_world 0 }

-- the world after a line that leads there, and what belongs to the line
abbrev pub world_after : World → Item → Progress → World
world_after w items.Header q = w
world_after w items.Begun q = first_world q.acceptors
world_after w (items.Event e) q = (step w e).after
world_after w items.End q = w

abbrev pub text_after : World → Item → Progress → List ℕ
text_after w items.Header q = []
text_after w items.Begun q = head_text q.acceptors
text_after w (items.Event e) q = happening_text q.events (length w.messages + 1) (step w e)
text_after w items.End q = []

-- the line may stand where the reader stands, and was taken
pub record Takes (old : State) (line : List ℕ) (new : State) (text : List ℕ) : Type 0 where
  pub item : Item
  pub read : line_reading old.progress line ≡ Some (item, new.progress)
  pub walks : Walks old.progress item new.progress
  pub world : new.world ≡ world_after old.world item new.progress
  pub text_is : text ≡ text_after old.world item new.progress

abbrev pub TakesOrNot : Bool → (old : State) → (line : List ℕ) → (new : State) → (text : List ℕ) → Type 0
TakesOrNot true old line new text = Takes old line new text
TakesOrNot false old line new text = line_reading old.progress line ≡ None

-- ---- between two lines

-- before the line `events` there is no event; behind it the world is that of the run
abbrev pub IsWorldAt : Place → ℕ → List Event → World → Type 0
IsWorldAt places.Version acceptors es w = es ≡ []
IsWorldAt places.Acceptors acceptors es w = es ≡ []
IsWorldAt places.Proposers acceptors es w = es ≡ []
IsWorldAt places.Shards acceptors es w = es ≡ []
IsWorldAt places.Configs acceptors es w = es ≡ []
IsWorldAt places.Begin acceptors es w = es ≡ []
IsWorldAt places.Events acceptors es w = w ≡ run acceptors es
IsWorldAt places.Ended acceptors es w = w ≡ run acceptors es

-- the lines so far, with what is held and left behind them, and what the sink holds
pub record IsAt (bytes before held_lines : List ℕ) (number : ℕ) (s : State) (left held : Option (List ℕ)) : Type 0 where
  pub rest : List ℕ
  pub told : left ≡ Some rest
  pub lines : List (List ℕ)
  pub events : List Event
  pub taken : Taken bytes lines events s.progress (held_lines ++ rest)
  pub counted : number ≡ length lines
  pub many : s.progress.events ≡ length events
  pub world : IsWorldAt s.progress.place s.progress.acceptors events s.world
  pub few : length held_lines ≤ LINE_LIMIT + 1
  pub holds : held ≡ Some (before ++ shown s.progress events)
