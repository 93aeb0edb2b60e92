-- How a line is read: which line it is, if it is one that may stand there.
use Rattle.std.specs.Prelude.{◌≡◌, ℕ, ◌&&◌, ◌==◌, if◌then◌else◌, List, [], codes, Option, Some, None, Result, Ok, Err}
use Rattle.std.specs.Option.{option_map}
use Rattle.std.specs.Result.{result_ok}
use Rattle.tcs_terms.specs.declared.limits.TheConstants.{MAX_NODES, MAX_SHARDS}
use Rattle.tcs_terms.specs.declared.ids.TxId.{TxId}
use Rattle.tcs_terms.specs.declared.votes.Cause.{Cause}
use Rattle.tcs_terms.specs.declared.votes.Cause.TheVariants as causes
use Rattle.tcs_terms.specs.declared.votes.Decision.{Decision}
use Rattle.tcs_terms.specs.declared.votes.Decision.TheVariants as decisions
use Rattle.tcs_terms.specs.declared.inputs.Handled.TheVariants as handled
use Rattle.tcs_terms.specs.declared.inputs.Result1.{Result1}
use Rattle.tcs_terms.specs.declared.inputs.Result1.TheVariants as results
use Rattle.tcs_terms.specs.declared.inputs.Note.{Note}
use Rattle.tcs_terms.specs.declared.inputs.Note.TheVariants as notes
use Rattle.tcs_terms.specs.Kinds.{kind_of, kind_word}
use Rattle.text_words.specs.PayloadWords.{number_in, reading}
use Rattle.text_words.specs.HexWords.{value_in}
use Rattle.text_words.specs.Words.{words_of}
use Rattle.wire_frame.specs.Frames.{read_frame}
use Rattle.trace_text.specs.declared.items.TraceItem.{TraceItem}
use Rattle.trace_text.specs.declared.items.TraceFault.{TraceFault}
use Rattle.trace_text.specs.declared.items.TraceFault.TheVariants.{Bad, OutOfMemory}
use Rattle.trace_text.specs.Versions.{message_fits}
use Rattle.trace_text.specs.Lines.{Line, HeadLine, EventLine, NoteLine, MessageLine, OrderLine, EndLine, line_text, Standing, MayStand, after, item_of}
use Rattle.tcs_terms.specs.Rules.{rule_in}
use Rattle.trace_text.specs.declared.stages.LineForm.{LineForm}
use Rattle.trace_text.specs.declared.stages.LineForm.TheVariants as forms
use Rattle.trace_text.specs.Stages.{form_of, allows}
use Rattle.trace_text.specs.Words.{◌>>=◌, first_word, is_word, number_within, next_number, txn_in, each_txn}
use Rattle.text_words.specs.PayloadWords.{name_in}
use Rattle.text_words.specs.HexWords.{bytes_in}

-- ---- results

abbrev pub MAX_MARK : ℕ
MAX_MARK = 4294967295

-- a result with a mark
unfoldable pub marked_in : List ℕ → Option Result1
marked_in text = do
  words ← first_word text
  mark ← number_within 0 MAX_MARK words.1
  if is_word (codes "stale") words.0 then Some (results.Node (handled.Stale mark))
      else if is_word (codes "held") words.0 then Some (results.Node (handled.Held mark))
      else None

unfoldable pub result_in : List ℕ → Option Result1
result_in text =
    if is_word (codes "acted") text then Some (results.Node handled.Acted)
    else if is_word (codes "full") text then Some (results.Node handled.Full)
    else if is_word (codes "gone") text then Some results.Gone
    else if is_word (codes "unsent") text then Some results.Unsent
    else marked_in text

-- ---- decisions

-- a cause that names a transaction
unfoldable pub clash_in : List ℕ → Option Cause
clash_in text = do
  words ← first_word text
  txn ← txn_in words.1
  if is_word (codes "clash") words.0 then Some (causes.Clash txn) else None

unfoldable pub cause_in : List ℕ → Option Cause
cause_in text = if is_word (codes "lost") text then Some causes.Lost else clash_in text

-- a decision to abort that names one of so many shards
unfoldable pub abort_in : ℕ → List ℕ → Option Decision
abort_in shards text = do
  words ← first_word text
  others ← first_word words.1
  shard ← number_within 1 shards others.0
  cause ← cause_in others.1
  if is_word (codes "abort") words.0 then Some (decisions.Abort shard cause) else None

unfoldable pub decision_in : ℕ → List ℕ → Option Decision
decision_in shards text = if is_word (codes "commit") text then Some decisions.Commit else abort_in shards text

-- ---- notes, each behind its first word

unfoldable pub begin_in : ℕ → List ℕ → Option Note
begin_in version text = do
  words ← first_word text
  txn ← txn_in words.0
  payload ← result_ok (reading version words.1)
  Some (notes.Begin txn payload)

unfoldable pub take_in : List ℕ → Option Note
take_in text = do
  txn ← txn_in text
  Some (notes.Take txn)

unfoldable pub read_in : List ℕ → Option Note
read_in text = do
  words ← first_word text
  others ← first_word words.1
  name ← name_in words.0
  version ← number_in others.0
  value ← value_in others.1
  Some (notes.ReadValue name version value)

unfoldable pub decide_in : ℕ → List ℕ → Option Note
decide_in shards text = do
  words ← first_word text
  txn ← txn_in words.0
  decision ← decision_in shards words.1
  Some (notes.Decide txn decision)

-- a note: its first word, and what follows
unfoldable pub note_in : ℕ → ℕ → List ℕ → List ℕ → Option Note
note_in version shards word text =
    if is_word (codes "begin") word then begin_in version text
    else if is_word (codes "take") word then take_in text
    else if is_word (codes "read") word then read_in text
    else if is_word (codes "decide") word then decide_in shards text
    else None

-- ---- messages

-- the name of a kind, and a frame of that kind that may stand in a trace of this version
unfoldable pub frame_in : ℕ → List ℕ → Option (List ℕ)
frame_in version text = do
  words ← first_word text
  frame ← bytes_in words.1
  message ← result_ok (read_frame frame)
  if is_word (kind_word (kind_of message)) words.0 && message_fits version message then Some frame else None

-- ---- lines, each behind its first word

unfoldable pub head_of : Standing → List ℕ → Option Line
head_of s text = do
  words ← first_word text
  others ← first_word words.1
  version ← number_within 1 2 words.0
  rule ← rule_in others.0
  shards ← number_within 1 MAX_SHARDS others.1
  Some (HeadLine version rule shards)

unfoldable pub event_of : Standing → List ℕ → Option Line
event_of s text = do
  words ← first_word text
  k ← next_number s.events words.0
  result ← result_in words.1
  Some (EventLine k result)

unfoldable pub note_of : Standing → List ℕ → List ℕ → Option Line
note_of s word text = do
  note ← note_in s.version s.shards word text
  Some (NoteLine note)

-- the number and the ends of a message, and what follows them
pub record Ends : Type 0 where
  pub number : ℕ
  pub from : ℕ
  pub to : ℕ
  pub rest : List ℕ

-- the same of the message after so many others
unfoldable pub ends_of : ℕ → List ℕ → Option Ends
ends_of count text = do
  words ← first_word text
  ends ← first_word words.1
  others ← first_word ends.1
  number ← next_number count words.0
  from ← number_within 0 MAX_NODES ends.0
  to ← number_within 0 MAX_NODES others.0
  Some (record { number = number; from = from; to = to; rest = others.1 })

unfoldable pub message_of : Standing → List ℕ → Option Line
message_of s text = do
  ends ← ends_of s.messages text
  frame ← frame_in s.version ends.rest
  Some (MessageLine ends.number ends.from ends.to frame)

-- the transactions of an order, or a dash where there are none
unfoldable pub order_in : List ℕ → Option (List TxId)
order_in text = if is_word (codes "-") text then Some [] else each_txn (words_of text)

unfoldable pub order_of : List ℕ → Option Line
order_of text = do
  order ← order_in text
  Some (OrderLine order)

unfoldable pub end_of : Standing → List ℕ → Option Line
end_of s text = do
  words ← first_word text
  events ← number_in words.0
  messages ← number_in words.1
  if (events == s.events) && (messages == s.messages) then Some (EndLine events messages) else None

-- a line of this form: its first word, and what follows
abbrev pub line_as : LineForm → Standing → List ℕ → List ℕ → Option Line
line_as forms.Head s word text = head_of s text
line_as forms.Event s word text = event_of s text
line_as forms.Note s word text = note_of s word text
line_as forms.Message s word text = message_of s text
line_as forms.Order s word text = order_of text
line_as forms.End s word text = end_of s text

-- a line of the form that its first word says, where it may come next
unfoldable pub line_of : Standing → List ℕ → List ℕ → Option Line
line_of s word text = if allows s.stage (form_of word) then line_as (form_of word) s word text else None

-- the line that a text is, behind these lines
unfoldable pub line_in : Standing → List ℕ → Option Line
line_in s text = do
  words ← first_word text
  line_of s words.0 words.1

-- ---- what the code answers

-- where a reader stands that was given a line, or a text that is none
abbrev pub behind : Standing → Option Line → Standing
behind s None = s
behind s (Some line) = after s line

-- the item of the line that was read, and where the reader then stands
pub record Takes (old new : Standing) (item : Option TraceItem) (read : Option Line) : Type 0 where
  pub item_is : item ≡ option_map item_of read
  pub stands : new ≡ behind old read

-- a reader's answer is the item of the line that was read, or that there is none, unless memory ran out; what is not
-- taken leaves the reader where it stood
abbrev pub Answers : Standing → Standing → Result TraceItem TraceFault → Option Line → Type 0
Answers old new (Ok item) read = Takes old new (Some item) read
Answers old new (Err Bad) read = Takes old new None read
Answers old new (Err OutOfMemory) read = new ≡ old

-- a line that may stand there has this text, the item is its, and the reader stands behind it
pub record Accepts (old : Standing) (text : List ℕ) (new : Standing) (item : TraceItem) : Type 0 where
  pub line : Line
  pub stands : MayStand old line
  pub spelled : text ≡ line_text line
  pub item_is : item ≡ item_of line
  pub behind_it : new ≡ after old line

-- the answer is the item of this line, behind which the reader stands, unless memory ran out
abbrev pub IsMemoryOr : Standing → Line → Standing → Result TraceItem TraceFault → Type 0
IsMemoryOr old line new (Ok item) = (item ≡ item_of line) × (new ≡ after old line)
IsMemoryOr old line new (Err Bad) = ⊥
IsMemoryOr old line new (Err OutOfMemory) = Unit {0}
