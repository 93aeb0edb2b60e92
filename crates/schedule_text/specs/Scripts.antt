-- How the lines of a script are read, one after the other: a schedule without deliveries, with lines that let time pass.
use Rattle.std.specs.Prelude.{ℕ, ◌+◌, ◌&&◌, nat_le, nat_lt, if◌then◌else◌, List, codes, Option, Some, None, Result, Ok, Err}
use Rattle.text_words.specs.declared.words.Reason.{Reason}
use Rattle.text_words.specs.declared.words.Reason.TheVariants as reasons
use Rattle.tcs_terms.specs.Setups.{Deployment}
use Rattle.text_words.specs.Words.{words_of, begins, after}
use Rattle.schedule_text.specs.declared.limits.TheConstants.{SCRIPT_LINES, MOST_TURNS, MOST_NODE_TURNS}
use Rattle.schedule_text.specs.declared.lines.Got.{Got}
use Rattle.schedule_text.specs.declared.lines.Got.TheVariants as gots
use Rattle.schedule_text.specs.declared.places.Place.{Place}
use Rattle.schedule_text.specs.declared.places.Place.TheVariants as places
use Rattle.schedule_text.specs.declared.script.ScriptForm.{ScriptForm}
use Rattle.schedule_text.specs.declared.script.ScriptForm.TheVariants as forms
use Rattle.schedule_text.specs.declared.script.ScriptItem.{ScriptItem}
use Rattle.schedule_text.specs.declared.script.ScriptItem.TheVariants as items
use Rattle.schedule_text.specs.declared.verbs.Verb.{Verb}
use Rattle.schedule_text.specs.declared.verbs.Verb.TheVariants as verbs
use Rattle.schedule_text.specs.Words.{end_at, number_at, between_at}
use Rattle.text_words.specs.PayloadWords.{◌>>=◌}
use Rattle.schedule_text.specs.Header.{Head, head_at, no_parts}
use Rattle.schedule_text.specs.Events.{event_at}
use Rattle.schedule_text.specs.Schedules.{first_verb, is_ended}

-- what the script is for; where a reader stands, the setup or its parts so far; how many lines stand there of which
-- there may be 25,000; and the sum of all turns
pub record ScriptProgress : Type 0 where
  pub form : ScriptForm
  pub head : Head
  pub lines : ℕ
  pub turns : ℕ

-- no line is read yet
abbrev pub script_start : ScriptForm → ScriptProgress
script_start form = record { form = form; head = record { place = places.Version; setup = no_parts }; lines = 0; turns = 0 }

abbrev pub ScriptRead : Type 0
ScriptRead = Result (ScriptItem × ScriptProgress) Reason

-- the node that the lines of the script are for, if they are for one alone
abbrev pub only_of : ScriptForm → Option ℕ
only_of (forms.Cluster turns) = None
only_of (forms.Node id) = Some id

-- ---- the header and the end

abbrev pub script_head_item : Option Deployment → ScriptItem
script_head_item None = items.Header
script_head_item (Some d) = items.Begun d

unfoldable pub script_header_at : ScriptProgress → List (List ℕ) → ScriptRead
script_header_at p words = do
  read ← head_at (only_of p.form) p.head.place p.head.setup words
  Ok (script_head_item read.0, record p { head = read.1 })

unfoldable pub script_end_at : ScriptProgress → List (List ℕ) → ScriptRead
script_end_at p words = do
  end ← end_at (after words)
  Ok (items.End, record p { head = record { place = places.Ended; setup = p.head.setup } })

-- ---- turns

-- the number of turns of a cluster's line: first the sum of all is looked at, then whether it is 1 to 15,000
unfoldable pub turns_at : ℕ → ℕ → List (List ℕ) → Result (ℕ × List (List ℕ)) Reason
turns_at most so_far words = do
  k ← number_at words
  if nat_lt most (so_far + k.0) then Err reasons.Many
      else if nat_le 1 k.0 && nat_le k.0 MOST_TURNS then Ok k else Err reasons.Range

unfoldable pub cluster_settle_at : ScriptProgress → ℕ → List (List ℕ) → ScriptRead
cluster_settle_at p most words = do
  k ← turns_at most p.turns words
  end ← end_at k.1
  Ok (items.Settle k.0, record p { turns = p.turns + k.0 })

-- a node's line counts as one of its 25,000 lines
unfoldable pub node_settle_at : ScriptProgress → List (List ℕ) → ScriptRead
node_settle_at p words = do
  k ← between_at 1 MOST_NODE_TURNS words
  end ← end_at k.1
  Ok (items.Settle k.0, record p { lines = p.lines + 1 })

unfoldable pub counted_settle_at : ScriptProgress → List (List ℕ) → ScriptRead
counted_settle_at p words = if nat_lt p.lines SCRIPT_LINES then node_settle_at p words else Err reasons.Many

abbrev pub settle_at : ScriptProgress → ScriptForm → List (List ℕ) → ScriptRead
settle_at p (forms.Cluster most) words = cluster_settle_at p most words
settle_at p (forms.Node id) words = counted_settle_at p words

-- ---- events

unfoldable pub script_event_at : ScriptProgress → Verb → List (List ℕ) → ScriptRead
script_event_at p verb words =
    if nat_lt p.lines SCRIPT_LINES
    then (event_at (only_of p.form) p.head.setup verb words >>= λ e. Ok (items.Event e, record p { lines = p.lines + 1 }))
    else Err reasons.Many

-- a script has no deliveries
abbrev pub script_verb_at : ScriptProgress → Option Verb → List (List ℕ) → ScriptRead
script_verb_at p None words = Err reasons.Word
script_verb_at p (Some (verbs.Call call)) words = script_event_at p (verbs.Call call) words
script_verb_at p (Some verbs.Deliver) words = Err reasons.Word
script_verb_at p (Some verbs.Stop) words = script_event_at p verbs.Stop words

-- ---- any line

unfoldable pub script_body_at : ScriptProgress → List (List ℕ) → ScriptRead
script_body_at p words =
    if begins (codes "end") words then script_end_at p words
    else if begins (codes "settle") words then settle_at p p.form (after words)
    else script_verb_at p (first_verb words) (after words)

abbrev pub script_line_at : ScriptProgress → Place → List (List ℕ) → ScriptRead
script_line_at p places.Version words = script_header_at p words
script_line_at p places.Certifier words = script_header_at p words
script_line_at p places.Shards words = script_header_at p words
script_line_at p places.Parts words = script_header_at p words
script_line_at p places.Events words = script_body_at p words
script_line_at p places.Ended words = Err reasons.Extra

-- before the end a line must come, whole and not too long
abbrev pub script_before_end : ScriptProgress → Got → List ℕ → ScriptRead
script_before_end p gots.Whole line = script_line_at p p.head.place (words_of line)
script_before_end p gots.Cut line = Err reasons.Missing
script_before_end p gots.Long line = Err reasons.Long
script_before_end p gots.Nothing line = Err reasons.Missing

-- after it nothing may come
abbrev pub script_after_end : ScriptProgress → Got → ScriptRead
script_after_end p gots.Whole = Err reasons.Extra
script_after_end p gots.Cut = Err reasons.Extra
script_after_end p gots.Long = Err reasons.Extra
script_after_end p gots.Nothing = Ok (items.End, p)

-- what a line is, and where the reader stands after it; or why it may not stand there
abbrev pub script_reading : ScriptProgress → Got → List ℕ → ScriptRead
script_reading p got line = if is_ended p.head.place then script_after_end p got else script_before_end p got line
