-- Where a replay stands between two lines. No clause of `replay` cites this module.
use Rattle.std.specs.Prelude.{◌≡◌, ◌⊎◌, ℕ, ◌+◌, ◌≤◌, List, [], ◌∷◌, ◌++◌, length, IsTrue, Option, Some, Ok, Err}
use Rattle.tcs_terms.specs.declared.inputs.Event.{Event}
use Rattle.text_words.specs.declared.words.Reason.{Reason}
use Rattle.tcs_terms.specs.Setups.{Deployment}
use Rattle.tcs_laws.specs.Certification.{Tests}
use Rattle.schedule_text.specs.declared.limits.TheConstants.{LINE_LIMIT}
use Rattle.schedule_text.specs.declared.lines.Got.{Got}
use Rattle.schedule_text.specs.declared.reader.LineItem.{LineItem}
use Rattle.schedule_text.specs.declared.reader.LineItem.TheVariants as of_lines
use Rattle.schedule_text.specs.declared.places.Place.{Place}
use Rattle.schedule_text.specs.declared.places.Place.TheVariants as places
use Rattle.schedule_text.specs.Bytes.{Taken, setups_on, events_on}
use Rattle.schedule_text.specs.Lines.{IsLine, Fits, HandsOut, Keeps, used}
use Rattle.schedule_text.specs.Schedules.{Progress, at_start, line_reading}
use Rattle.schedule_text.specs.Whole.{reads}
use Rattle.protocol.specs.Limit.{Progress as Run}
use Rattle.protocol.specs.Limit.Answer.{SoupFull}
use Rattle.replay_core.specs.declared.reading.Reading.{Reading}
use Rattle.replay_core.specs.declared.stops.ReplayStop.{ReplayStop}
use Rattle.replay_core.specs.declared.stops.ReplayStop.TheVariants as stops
use Rattle.replay_core.specs.Replays.{Stopped, Worked, InWork, shown}
use Rattle.replay_core.specs.Trace.{tests_of, run_of, answer_to, is_live, trace_front}

-- ---- one line

-- what the reader of lines found is taken as this item
pub record Takes (old new : Reading) (item : LineItem) (left left' : Option (List ℕ)) : Type 0 where
  pub got : Got
  pub line : List ℕ
  pub fits : Fits got line
  pub read : line_reading old.reader got line ≡ Ok (item, new.reader)
  pub one_more : new.number ≡ old.number + 1
  pub ahead : used got line + length new.lines ≤ LINE_LIMIT + 1
  pub hands : (rest : List ℕ) → left ≡ Some rest → HandsOut got (old.lines ++ rest) line new.lines left'

-- it may not stand there
pub record Misfits (old : Reading) (number : ℕ) (reason : Reason) (left left' : Option (List ℕ)) : Type 0 where
  pub got : Got
  pub line : List ℕ
  pub held : List ℕ
  pub fits : Fits got line
  pub refused : line_reading old.reader got line ≡ Err reason
  pub counted : number ≡ old.number + 1
  pub ahead : used got line + length held ≤ LINE_LIMIT + 1
  pub hands : (rest : List ℕ) → left ≡ Some rest → HandsOut got (old.lines ++ rest) line held left'

-- reading stopped: so much is held
pub record Breaks (old : Reading) (held : List ℕ) (left left' : Option (List ℕ)) : Type 0 where
  pub few : length held ≤ LINE_LIMIT + 1
  pub keeps : (rest : List ℕ) → left ≡ Some rest → Keeps (old.lines ++ rest) held left'

abbrev pub Refuses : Reading → (left left' : Option (List ℕ)) → ReplayStop → Type 0
Refuses old left left' (stops.Bad number reason) = Misfits old number reason left left'
Refuses old left left' stops.ReadFault = (held : List ℕ) × Breaks old held left left' × IsLine held
Refuses old left left' stops.WriteFault = ⊥
Refuses old left left' (stops.Full sum) = ⊥
Refuses old left left' stops.OutOfMemory = (held : List ℕ) × Breaks old held left left'

-- ---- lines so far

-- without regard to bytes: the lines so far are these, and they are counted
pub record Standing (r : Reading) (is : List LineItem) : Type 0 where
  pub lines : List (List ℕ)
  pub read : reads at_start lines ≡ Ok (is, r.reader)
  pub counted : r.number ≡ length lines
  pub few : length r.lines ≤ LINE_LIMIT + 1

-- with the bytes: they are the first of all bytes, and behind them stand what is held and what is left
pub record HasRead (bytes : List ℕ) (r : Reading) (left : Option (List ℕ)) (is : List LineItem) : Type 0 where
  pub rest : List ℕ
  pub told : left ≡ Some rest
  pub lines : List (List ℕ)
  pub taken : Taken bytes lines is r.reader (r.lines ++ rest)
  pub counted : r.number ≡ length lines
  pub few : length r.lines ≤ LINE_LIMIT + 1

-- ---- in the header

-- the line in work is this one, and the source tells what it has left
pub record InHand (bytes : List ℕ) (left : Option (List ℕ)) (is : List LineItem) (item : LineItem) : Type 0 where
  pub rest : List ℕ
  pub told : left ≡ Some rest
  pub progress : Progress
  pub behind : List ℕ
  pub worked : Worked bytes rest is progress behind
  pub line : InWork progress behind item

-- lines of a header were taken, and not the line `events`
pub record InHeader (r : Reading) (left left' : Option (List ℕ)) : Type 0 where
  pub items : List LineItem
  pub standing : Standing r items
  pub none : setups_on items ≡ []
  pub idle : events_on items ≡ []
  pub read : (bytes : List ℕ) → left ≡ Some bytes → HasRead bytes r left' items

-- the line `events` was taken
pub record Begun (new : Reading) (left left' : Option (List ℕ)) (d : Deployment) : Type 0 where
  pub items : List LineItem
  pub standing : Standing new (items ++ of_lines.Begun d ∷ [])
  pub place : new.reader.head.place ≡ places.Events
  pub setup : d ≡ new.reader.head.setup
  pub none : setups_on items ≡ []
  pub idle : events_on items ≡ []
  pub read : (bytes : List ℕ) → left ≡ Some bytes → HasRead bytes new left' (items ++ of_lines.Begun d ∷ []) × InHand bytes left' items (of_lines.Begun d)

-- nothing was written
abbrev pub StopsInHeader : (left left' : Option (List ℕ)) → ReplayStop → Type 0
StopsInHeader left left' stop = (bytes : List ℕ) → left ≡ Some bytes → (rest : List ℕ) × (left' ≡ Some rest) × Stopped bytes rest [] stop

-- ---- in the run

-- the run is that of the setup over these events, and keeps within the limit
pub record RunsAt (tests : Tests) (setup : Deployment) (progress : Run) (d : Deployment) (es : List Event) : Type 0 where
  pub certifier : tests ≡ tests_of d.rule
  pub of : setup ≡ d
  pub so_far : progress ≡ run_of d es
  pub within : IsTrue (is_live (run_of d es))

-- this text belongs to one event more
abbrev pub Stepped : Deployment → List Event → Event → List ℕ → Type 0
Stepped d es event text = trace_front d (es ++ event ∷ []) ≡ trace_front d es ++ text

abbrev pub StopsStepping : Deployment → List Event → Event → ReplayStop → Type 0
StopsStepping d es event (stops.Bad number reason) = ⊥
StopsStepping d es event stops.ReadFault = ⊥
StopsStepping d es event stops.WriteFault = ⊥
StopsStepping d es event (stops.Full sum) = answer_to d es event ≡ SoupFull sum
StopsStepping d es event stops.OutOfMemory = Unit {0}

-- the line `events` was taken, the reader stands at this place, and the run is that of the events so far
pub record StandsBegun (tests : Tests) (here : Place) (r : Reading) (setup : Deployment) (progress : Run) (is : List LineItem) : Type 0 where
  pub standing : Standing r is
  pub place : r.reader.head.place ≡ here
  pub begun : setups_on is ≡ r.reader.head.setup ∷ []
  pub runs : RunsAt tests setup progress r.reader.head.setup (events_on is)

-- the bytes so far, and what the sink holds
pub record IsAt (bytes before : List ℕ) (r : Reading) (left held : Option (List ℕ)) (is : List LineItem) : Type 0 where
  pub read : HasRead bytes r left is
  pub holds : held ≡ Some (before ++ shown is)

-- from where it stood at first, lines of events were taken
pub record GoesOn (tests : Tests) (first : Reading) (left held : Option (List ℕ)) (is : List LineItem) (now : Reading) (setup : Deployment) (progress : Run) (left' held' : Option (List ℕ)) : Type 0 where
  pub items : List LineItem
  pub stands : StandsBegun tests places.Events now setup progress items
  pub at : (bytes before : List ℕ) → IsAt bytes before first left held is → IsAt bytes before now left' held' items
