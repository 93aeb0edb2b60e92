-- How the lines of a schedule are read, one after the other.
use Rattle.std.specs.Prelude.{ℕ, ◌+◌, Bool, true, false, nat_lt, if◌then◌else◌, List, [], ◌∷◌, codes, Option, Some, None, Result, Ok, Err}
use Rattle.text_words.specs.declared.words.Reason.{Reason}
use Rattle.text_words.specs.declared.words.Reason.TheVariants as reasons
use Rattle.tcs_terms.specs.Setups.{Deployment}
use Rattle.text_words.specs.Words.{words_of, begins, after}
use Rattle.schedule_text.specs.declared.limits.TheConstants.{EVENT_LIMIT}
use Rattle.schedule_text.specs.declared.lines.Got.{Got}
use Rattle.schedule_text.specs.declared.lines.Got.TheVariants as gots
use Rattle.schedule_text.specs.declared.places.Place.{Place}
use Rattle.schedule_text.specs.declared.places.Place.TheVariants as places
use Rattle.schedule_text.specs.declared.reader.LineItem.{LineItem}
use Rattle.schedule_text.specs.declared.reader.LineItem.TheVariants as items
use Rattle.schedule_text.specs.declared.verbs.Verb.{Verb}
use Rattle.schedule_text.specs.Words.{end_at}
use Rattle.text_words.specs.PayloadWords.{◌>>=◌}
use Rattle.schedule_text.specs.Header.{Head, head_at, no_parts}
use Rattle.schedule_text.specs.Events.{verb_of, event_at}

-- where a reader stands, the setup or its parts so far, and how many events were read
pub record Progress : Type 0 where
  pub head : Head
  pub count : ℕ

-- no line is read yet
abbrev pub at_start : Progress
at_start = record { head = record { place = places.Version; setup = no_parts }; count = 0 }

abbrev pub ItemRead : Type 0
ItemRead = Result (LineItem × Progress) Reason

-- ---- a whole line

-- a line of the header: the last one gives the setup
abbrev pub head_item : Option Deployment → LineItem
head_item None = items.Header
head_item (Some d) = items.Begun d

unfoldable pub header_line_at : Progress → List (List ℕ) → ItemRead
header_line_at p words = do
  read ← head_at None p.head.place p.head.setup words
  Ok (head_item read.0, record p { head = read.1 })

-- the last line
unfoldable pub end_line_at : Progress → List (List ℕ) → ItemRead
end_line_at p words = do
  end ← end_at words
  Ok (items.End, record p { head = record { place = places.Ended; setup = p.head.setup } })

-- the line of an event, of which there are at most 1,000,000
unfoldable pub counted_event_at : Progress → Verb → List (List ℕ) → ItemRead
counted_event_at p verb words =
    if nat_lt p.count EVENT_LIMIT
    then (event_at None p.head.setup verb words >>= λ e. Ok (items.Event e, record p { count = p.count + 1 }))
    else Err reasons.Many

abbrev pub verb_line_at : Progress → Option Verb → List (List ℕ) → ItemRead
verb_line_at p None words = Err reasons.Word
verb_line_at p (Some verb) words = counted_event_at p verb words

-- the kind of event that the first of the words names
abbrev pub first_verb : List (List ℕ) → Option Verb
first_verb [] = None
first_verb (w ∷ ws) = verb_of w

unfoldable pub event_line_at : Progress → List (List ℕ) → ItemRead
event_line_at p words = if begins (codes "end") words then end_line_at p (after words) else verb_line_at p (first_verb words) (after words)

abbrev pub line_at : Progress → Place → List (List ℕ) → ItemRead
line_at p places.Version words = header_line_at p words
line_at p places.Certifier words = header_line_at p words
line_at p places.Shards words = header_line_at p words
line_at p places.Parts words = header_line_at p words
line_at p places.Events words = event_line_at p words
line_at p places.Ended words = Err reasons.Extra

-- ---- whatever the reader of lines found

-- before the end a line must come, whole and not too long
abbrev pub got_before_end : Progress → Got → List ℕ → ItemRead
got_before_end p gots.Whole line = line_at p p.head.place (words_of line)
got_before_end p gots.Cut line = Err reasons.Missing
got_before_end p gots.Long line = Err reasons.Long
got_before_end p gots.Nothing line = Err reasons.Missing

-- after it nothing may come
abbrev pub got_after_end : Progress → Got → ItemRead
got_after_end p gots.Whole = Err reasons.Extra
got_after_end p gots.Cut = Err reasons.Extra
got_after_end p gots.Long = Err reasons.Extra
got_after_end p gots.Nothing = Ok (items.End, p)

abbrev pub is_ended : Place → Bool
is_ended places.Version = false
is_ended places.Certifier = false
is_ended places.Shards = false
is_ended places.Parts = false
is_ended places.Events = false
is_ended places.Ended = true

-- what a line is, and where the reader stands after it; or why it may not stand there
abbrev pub line_reading : Progress → Got → List ℕ → ItemRead
line_reading p got line = if is_ended p.head.place then got_after_end p got else got_before_end p got line
