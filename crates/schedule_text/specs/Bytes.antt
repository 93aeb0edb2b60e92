-- The bytes of a schedule: which bytes are the text of one, and which line is the first bad one of any others.
use Rattle.std.specs.Prelude.{◌≡◌, ℕ, ◌+◌, List, [], ◌++◌, length, filter_map, Option, Some, None, Ok, Err}
use Rattle.std.specs.List.{flat_map, AllByRecursion}
use Rattle.tcs_terms.specs.declared.inputs.Event.{Event}
use Rattle.text_words.specs.declared.words.Reason.{Reason}
use Rattle.tcs_terms.specs.Setups.{Deployment}
use Rattle.schedule_text.specs.declared.lines.Got.{Got}
use Rattle.schedule_text.specs.declared.reader.LineItem.{LineItem}
use Rattle.schedule_text.specs.declared.reader.LineItem.TheVariants as items
use Rattle.schedule_text.specs.Lines.{IsLine, Fits, Divides}
use Rattle.schedule_text.specs.Schedules.{Progress, at_start, line_reading}
use Rattle.schedule_text.specs.Text.{with_feed, schedule_text}
use Rattle.schedule_text.specs.Whole.{IsSchedule, reads}

-- the bytes are the text of this schedule
pub record IsText (bytes : List ℕ) (d : Deployment) (es : List Event) : Type 0 where
  pub schedule : IsSchedule d es
  pub text : bytes ≡ schedule_text d es

-- ---- the first lines

-- The bytes begin with these lines, each with its line feed, and these bytes stand behind them. One after the other
-- the lines are lines of a schedule: what each of them is, and where a reader then stands.
pub record Taken (bytes : List ℕ) (lines : List (List ℕ)) (is : List LineItem) (p : Progress) (behind : List ℕ) : Type 0 where
  pub each : AllByRecursion IsLine lines
  pub front : bytes ≡ flat_map with_feed lines ++ behind
  pub read : reads at_start lines ≡ Ok (is, p)

-- the event of a line, if it is that of one
abbrev pub event_in : LineItem → Option Event
event_in items.Header = None
event_in (items.Begun d) = None
event_in (items.Event e) = Some e
event_in items.End = None

-- the events on these lines
abbrev pub events_on : List LineItem → List Event
events_on is = filter_map event_in is

-- the setup that a line makes whole, if it is the line `events`
abbrev pub setup_in : LineItem → Option Deployment
setup_in items.Header = None
setup_in (items.Begun d) = Some d
setup_in (items.Event e) = None
setup_in items.End = None

-- the setups that are whole with these lines: one, once the line `events` is among them
abbrev pub setups_on : List LineItem → List Deployment
setups_on is = filter_map setup_in is

-- ---- the next line, and the first bad one

-- What comes next: a whole line, with the bytes behind its line feed; the bytes of a line that the end cuts off; one
-- byte more than a line may have, without a line feed; or nothing.
abbrev pub IsNext : (bytes : List ℕ) → Got → (line rest : List ℕ) → Type 0
IsNext bytes got line rest = Fits got line × Divides got bytes line [] rest

-- The line of this number is the first that may not stand where it stands, for this reason; before it stand lines of a
-- schedule, which are these. The lines count from 1. One that is missing, or is too long, or follows the end is bad too.
pub record FirstBad (bytes : List ℕ) (number : ℕ) (reason : Reason) (is : List LineItem) : Type 0 where
  pub lines : List (List ℕ)
  pub progress : Progress
  pub behind : List ℕ
  pub taken : Taken bytes lines is progress behind
  pub numbered : number ≡ length lines + 1
  pub got : Got
  pub line : List ℕ
  pub rest : List ℕ
  pub next : IsNext behind got line rest
  pub refused : line_reading progress got line ≡ Err reason

-- ---- any bytes

-- the bytes are the text of a schedule
pub record HasText (bytes : List ℕ) : Type 0 where
  pub setup : Deployment
  pub events : List Event
  pub is : IsText bytes setup events

-- the bytes have a first bad line
pub record HasFirstBad (bytes : List ℕ) : Type 0 where
  pub number : ℕ
  pub reason : Reason
  pub items : List LineItem
  pub is : FirstBad bytes number reason items
