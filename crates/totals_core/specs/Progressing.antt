-- What the steps of `totals` answer. No clause of `totals` cites this module.
use Rattle.std.specs.Prelude.{◌≡◌, ◌⊎◌, ℕ, ◌<◌, ◌≤◌, true, List, [], ◌++◌, length, Option, Some}
use Rattle.tcs_io.specs.Bytes.{HoldsFront}
use Rattle.tcs_terms.specs.declared.inputs.Event.{Event}
use Rattle.tcs_terms.specs.declared.inputs.Note.{Note}
use Rattle.tcs_terms.specs.declared.setups.Rule.TheVariants as rules
use Rattle.tcs_terms.specs.Setups.{Deployment}
use Rattle.tcs_laws.specs.Certification.{Tests}
use Rattle.schedule_text.specs.declared.places.Place.TheVariants as places
use Rattle.schedule_text.specs.declared.reader.LineItem.{LineItem}
use Rattle.schedule_text.specs.Bytes.{IsText}
use Rattle.protocol.specs.CorrectHistory.{agrees}
use Rattle.protocol.specs.Limit.{Progress as Run}
use Rattle.protocol.specs.World.{World}
use Rattle.counters.specs.declared.limits.TheConstants.{MAX_PAYLOADS}
use Rattle.replay_core.specs.declared.reading.Reading.{Reading}
use Rattle.replay_core.specs.declared.stops.ReplayStop.{ReplayStop}
use Rattle.replay_core.specs.declared.stops.ReplayStop.TheVariants as stops
use Rattle.replay_core.specs.Replays.{Kept}
use Rattle.replay_core.specs.Standing.{Begun, InHeader, HasRead, StandsBegun}
use Rattle.replay_core.specs.Trace.{run_of}
use Rattle.totals_core.specs.Telling.{IsTold}
use Rattle.totals_core.specs.Totalling.{Stops}

-- ---- telling

-- a history that agrees, with fewer notes than payloads can be summed
pub record AreFew (h : List Note) : Type 0 where
  pub agreement : agrees h ≡ true
  pub few : length h < MAX_PAYLOADS

-- what is told was written
pub record Tells (shards : ℕ) (w : World) (before : List ℕ) (held : Option (List ℕ)) : Type 0 where
  pub text : List ℕ
  pub told : IsTold shards w text
  pub holds : held ≡ Some (before ++ text)

-- a front of it was written
pub record TellsFront (shards : ℕ) (w : World) (before : List ℕ) (held : Option (List ℕ)) : Type 0 where
  pub text : List ℕ
  pub told : IsTold shards w text
  pub front : HoldsFront before text held

abbrev pub TellsInPart : (shards : ℕ) (w : World) (before : List ℕ) (held : Option (List ℕ)) → ReplayStop → Type 0
TellsInPart shards w before held (stops.Bad number reason) = ⊥
TellsInPart shards w before held stops.ReadFault = ⊥
TellsInPart shards w before held stops.WriteFault = TellsFront shards w before held
TellsInPart shards w before held (stops.Full sum) = ⊥
TellsInPart shards w before held stops.OutOfMemory = (held ≡ Some before) ⊎ TellsFront shards w before held

-- ---- reading

-- a stop before anything was written, with these bytes
abbrev pub StopsNow : List ℕ → (left' : Option (List ℕ)) → ReplayStop → Type 0
StopsNow bytes left' stop = (rest : List ℕ) × (left' ≡ Some rest) × Stops bytes rest [] stop

-- the same, where the source told its bytes at first
abbrev pub StopsUnwritten : (left left' : Option (List ℕ)) → ReplayStop → Type 0
StopsUnwritten left left' stop = (bytes : List ℕ) → left ≡ Some bytes → StopsNow bytes left' stop

-- lines of a header were taken; once they are two or more, they name the rule in which additions commute
pub record InCommuting (r : Reading) (left left' : Option (List ℕ)) : Type 0 where
  pub header : InHeader r left left'
  pub commute : 2 ≤ r.number → r.reader.head.setup.rule ≡ rules.Commute

-- the line `events` was taken, of such a header
pub record BegunCommuting (r : Reading) (left left' : Option (List ℕ)) (d : Deployment) : Type 0 where
  pub begun : Begun r left left' d
  pub many : 2 ≤ r.number
  pub commute : d.rule ≡ rules.Commute

-- from where it stood at first, lines of events were taken, and nothing was written
pub record GoesOn (tests : Tests) (first : Reading) (left : Option (List ℕ)) (is : List LineItem) (now : Reading) (setup : Deployment) (progress : Run) (left' : Option (List ℕ)) : Type 0 where
  pub items : List LineItem
  pub stands : StandsBegun tests places.Events now setup progress items
  pub many : 2 ≤ now.number
  pub commute : now.reader.head.setup.rule ≡ rules.Commute
  pub at : (bytes : List ℕ) → HasRead bytes first left is → HasRead bytes now left' items

-- the bytes are the text of a schedule by the rule in which additions commute, all was read, and this is its run, within
-- the limit
pub record HasRun (bytes : List ℕ) (left' : Option (List ℕ)) (setup : Deployment) (progress : Run) : Type 0 where
  pub at_end : left' ≡ Some []
  pub events : List Event
  pub text : IsText bytes setup events
  pub commute : setup.rule ≡ rules.Commute
  pub kept : Kept setup events
  pub so_far : progress ≡ run_of setup events
