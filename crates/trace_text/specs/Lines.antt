-- The lines of a trace, and which of them may stand where.
use Rattle.std.specs.Prelude.{◌≡◌, ℕ, ◌+◌, ◌^◌, ◌<◌, ◌≤◌, ◌&&◌, ◌||◌, ◌==◌, nat_le, List, ◌++◌, slice_index, codes, decimal, IsTrue}
use Rattle.std.specs.List.{list_all}
use Rattle.hex.specs.Hex.{IsBytes, encode_lower}
use Rattle.tcs_terms.specs.declared.limits.TheConstants.{MAX_NODES, MAX_SHARDS}
use Rattle.tcs_terms.specs.declared.ids.TxId.{TxId}
use Rattle.tcs_terms.specs.declared.votes.Cause.{Cause}
use Rattle.tcs_terms.specs.declared.votes.Cause.TheVariants as causes
use Rattle.tcs_terms.specs.declared.votes.Decision.{Decision}
use Rattle.tcs_terms.specs.declared.votes.Decision.TheVariants as decisions
use Rattle.tcs_terms.specs.declared.inputs.Handled.{Handled}
use Rattle.tcs_terms.specs.declared.inputs.Handled.TheVariants as handled
use Rattle.tcs_terms.specs.declared.inputs.Result1.{Result1}
use Rattle.tcs_terms.specs.declared.inputs.Result1.TheVariants as results
use Rattle.tcs_terms.specs.declared.inputs.Note.{Note}
use Rattle.tcs_terms.specs.declared.inputs.Note.TheVariants as notes
use Rattle.tcs_terms.specs.declared.messages.Message.{Message}
use Rattle.tcs_terms.specs.declared.setups.Rule.{Rule}
use Rattle.tcs_terms.specs.Objects.{IsName, IsValue}
use Rattle.tcs_terms.specs.Payloads.{IsPayload}
use Rattle.text_words.specs.PayloadWords.{FitsVersion}
use Rattle.tcs_terms.specs.Places.{is_shard}
use Rattle.tcs_terms.specs.Messages.{is_txn, InRange}
use Rattle.wire_frame.specs.Spelling.{spell}
use Rattle.trace_text.specs.declared.items.TraceItem.{TraceItem}
use Rattle.trace_text.specs.declared.items.TraceItem.TheVariants as items
use Rattle.trace_text.specs.declared.stages.Stage.{Stage}
use Rattle.trace_text.specs.declared.stages.LineForm.TheVariants as forms
use Rattle.trace_text.specs.declared.stages.Stage.TheVariants.{Start, Begun, Event, Messages, Ordered, Ended}
use Rattle.tcs_terms.specs.Rules.{rule_text}
use Rattle.trace_text.specs.Texts.{result_text, note_text, kind_text, order_text}
use Rattle.trace_text.specs.Versions.{message_fits}
use Rattle.trace_text.specs.Stages.{allows}

-- A line of a trace. A message has its number, its sender, its receiver and its frame.
pub data Line : Type 0 where
  HeadLine : (version : ℕ) → (rule : Rule) → (shards : ℕ) → Line
  EventLine : (k : ℕ) → (result : Result1) → Line
  NoteLine : (note : Note) → Line
  MessageLine : (number : ℕ) → (from : ℕ) → (to : ℕ) → (frame : List ℕ) → Line
  OrderLine : (order : List TxId) → Line
  EndLine : (events : ℕ) → (messages : ℕ) → Line

-- its text, without the line feed
abbrev pub line_text : Line → List ℕ
line_text (HeadLine version rule shards) = codes "trace " ++ decimal version ++ codes " " ++ rule_text rule ++ codes " " ++ decimal shards
line_text (EventLine k result) = codes "e " ++ decimal k ++ codes " " ++ result_text result
line_text (NoteLine note) = note_text note
line_text (MessageLine number from to frame) =
    codes "m " ++ decimal number ++ codes " " ++ decimal from ++ codes " " ++ decimal to ++ codes " "
    ++ kind_text (slice_index frame 0) ++ codes " " ++ encode_lower frame
line_text (OrderLine order) = codes "order " ++ order_text order
line_text (EndLine events messages) = codes "end " ++ decimal events ++ codes " " ++ decimal messages

-- a line as it is printed: its text and a line feed
abbrev pub printed : Line → List ℕ
printed line = line_text line ++ codes "\n"

-- ---- where a line may stand

-- Behind which lines a reader stands: the last one's form, the version and the number of shards of the first line, and
-- how many events and messages there were.
pub record Standing : Type 0 where
  pub stage : Stage
  pub version : ℕ
  pub shards : ℕ
  pub events : ℕ
  pub messages : ℕ

-- the version is 1 or 2, there are at most 16 shards, and the counts have numbers
pub record IsStanding (s : Standing) : Type 0 where
  pub version : IsTrue ((s.version == 1) || (s.version == 2))
  pub shards : s.shards ≤ MAX_SHARDS
  pub events : s.events < 2 ^ 64
  pub messages : s.messages < 2 ^ 64

-- before the first line
abbrev pub at_start : Standing
at_start = record { stage = Start; version = 1; shards = 0; events = 0; messages = 0 }

-- a mark is below 2 ^ 32
abbrev pub IsHandled : Handled → Type 0
IsHandled handled.Acted = Unit {0}
IsHandled (handled.Stale mark) = mark < 2 ^ 32
IsHandled (handled.Held mark) = mark < 2 ^ 32
IsHandled handled.Full = Unit {0}

abbrev pub IsResult : Result1 → Type 0
IsResult (results.Node h) = IsHandled h
IsResult results.Gone = Unit {0}
IsResult results.Unsent = Unit {0}

abbrev pub IsCause : Cause → Type 0
IsCause (causes.Clash txn) = IsTrue (is_txn txn)
IsCause causes.Lost = Unit {0}

-- a decision to abort names one of so many shards
abbrev pub IsDecision : ℕ → Decision → Type 0
IsDecision shards decisions.Commit = Unit {0}
IsDecision shards (decisions.Abort shard cause) = IsTrue (nat_le 1 shard && nat_le shard shards) × IsCause cause

-- a note in a trace of this version with so many shards
abbrev pub IsNote : ℕ → ℕ → Note → Type 0
IsNote version shards (notes.Begin txn payload) = IsTrue (is_txn txn) × IsPayload payload × FitsVersion version payload
IsNote version shards (notes.Take txn) = IsTrue (is_txn txn)
IsNote version shards (notes.ReadValue name seen value) = IsName name × (seen < 2 ^ 64) × IsValue value
IsNote version shards (notes.Decide txn decision) = IsTrue (is_txn txn) × IsDecision shards decision

-- bytes that are the frame of a message in a trace of this version
pub record IsFrame (version : ℕ) (frame : List ℕ) : Type 0 where
  pub are_bytes : IsBytes frame
  pub message : Message
  pub in_range : InRange message
  pub spelled : frame ≡ spell message
  pub fits : IsTrue (message_fits version message)

-- Numbers of events and of messages count from 1 without gaps; ends are 0 to 64; the last line has the counts.
abbrev pub MayStand : Standing → Line → Type 0
MayStand s (HeadLine version rule shards) = IsTrue (allows s.stage forms.Head) × IsTrue (nat_le 1 version && nat_le version 2) × IsTrue (is_shard shards)
MayStand s (EventLine k result) = IsTrue (allows s.stage forms.Event) × (k ≡ s.events + 1) × (k < 2 ^ 64) × IsResult result
MayStand s (NoteLine note) = IsTrue (allows s.stage forms.Note) × IsNote s.version s.shards note
MayStand s (MessageLine number from to frame) =
    IsTrue (allows s.stage forms.Message) × (number ≡ s.messages + 1) × (number < 2 ^ 64) × (from ≤ MAX_NODES) × (to ≤ MAX_NODES) × IsFrame s.version frame
MayStand s (OrderLine order) = IsTrue (allows s.stage forms.Order) × IsTrue (list_all is_txn order)
MayStand s (EndLine events messages) = IsTrue (allows s.stage forms.End) × (events ≡ s.events) × (messages ≡ s.messages)

-- where it stands behind one more line
abbrev pub after : Standing → Line → Standing
after s (HeadLine version rule shards) = record s { stage = Begun; version = version; shards = shards }
after s (EventLine k result) = record s { stage = Event; events = k }
after s (NoteLine note) = s
after s (MessageLine number from to frame) = record s { stage = Messages; messages = number }
after s (OrderLine order) = record s { stage = Ordered }
after s (EndLine events messages) = record s { stage = Ended }

-- the item of a line
abbrev pub item_of : Line → TraceItem
item_of (HeadLine version rule shards) = items.Head rule shards
item_of (EventLine k result) = items.Event
item_of (NoteLine note) = items.NoteLine note
item_of (MessageLine number from to frame) = items.MessageLine
item_of (OrderLine order) = items.Order order
item_of (EndLine events messages) = items.End
