-- The trace of a list of happenings, and its reading line by line.
use Rattle.std.specs.Prelude.{ℕ, ◌+◌, ◌^◌, ◌<◌, ◌≤◌, ◌&&◌, nat_le, List, [], ◌∷◌, ◌++◌, length, map, Option, Some, IsTrue}
use Rattle.std.specs.List.{list_all, flat_map, AllByRecursion}
use Rattle.tcs_terms.specs.declared.limits.TheConstants.{MAX_NODES}
use Rattle.tcs_terms.specs.declared.ids.TxId.{TxId}
use Rattle.tcs_terms.specs.declared.inputs.Result1.{Result1}
use Rattle.tcs_terms.specs.declared.inputs.Note.{Note}
use Rattle.tcs_terms.specs.declared.setups.Rule.{Rule}
use Rattle.tcs_terms.specs.Places.{is_shard}
use Rattle.tcs_terms.specs.Messages.{is_txn}
use Rattle.trace_text.specs.declared.items.TraceItem.{TraceItem}
use Rattle.trace_text.specs.declared.items.TraceItem.TheVariants as items
use Rattle.trace_text.specs.declared.stages.Stage.TheVariants.{Ended}
use Rattle.trace_text.specs.Lines.{Line, HeadLine, EventLine, NoteLine, MessageLine, OrderLine, EndLine, Standing, IsResult, IsNote, IsFrame, after, item_of}
use Rattle.trace_text.specs.Words.{◌>>=◌}
use Rattle.trace_text.specs.Readings.{line_in}

-- a message that was sent: its ends and its frame
pub record Sending : Type 0 where
  pub from : ℕ
  pub to : ℕ
  pub frame : List ℕ

-- what one event puts into a trace: its result, its notes and its messages
pub record Happening : Type 0 where
  pub result : Result1
  pub notes : List Note
  pub sends : List Sending

-- what a trace shows: the version, the rule and the number of shards, what happened, and the order of commits
pub record Trace : Type 0 where
  pub version : ℕ
  pub rule : Rule
  pub shards : ℕ
  pub happenings : List Happening
  pub order : List TxId

-- how many messages were sent
abbrev pub sends_of : List Happening → ℕ
sends_of [] = 0
sends_of (h ∷ hs) = length h.sends + sends_of hs

-- ---- its lines

-- the lines of messages, numbered from this number on
abbrev pub message_lines : ℕ → List Sending → List Line
message_lines number [] = []
message_lines number (m ∷ ms) = MessageLine number m.from m.to m.frame ∷ message_lines (number + 1) ms

-- the lines of an event, its notes and its messages: its number, and that of its first message
abbrev pub event_lines : ℕ → ℕ → Happening → List Line
event_lines k number h = EventLine k h.result ∷ (map NoteLine h.notes ++ message_lines number h.sends)

-- the lines of events, the first of them with these numbers
abbrev pub events_lines : ℕ → ℕ → List Happening → List Line
events_lines k number [] = []
events_lines k number (h ∷ hs) = event_lines k number h ++ events_lines (k + 1) (number + length h.sends) hs

abbrev pub trace_lines : Trace → List Line
trace_lines t =
    HeadLine t.version t.rule t.shards
    ∷ (events_lines 1 1 t.happenings ++ OrderLine t.order ∷ EndLine (length t.happenings) (sends_of t.happenings) ∷ [])

-- ---- its items

abbrev pub event_items : Happening → List TraceItem
event_items h = items.Event ∷ (map items.NoteLine h.notes ++ map (λ m. items.MessageLine) h.sends)

abbrev pub trace_items : Trace → List TraceItem
trace_items t = items.Head t.rule t.shards ∷ (flat_map event_items t.happenings ++ items.Order t.order ∷ items.End ∷ [])

-- ---- what may be shown

pub record IsSending (version : ℕ) (m : Sending) : Type 0 where
  pub from : m.from ≤ MAX_NODES
  pub to : m.to ≤ MAX_NODES
  pub frame : IsFrame version m.frame

pub record IsHappening (version shards : ℕ) (h : Happening) : Type 0 where
  pub result : IsResult h.result
  pub notes : AllByRecursion (IsNote version shards) h.notes
  pub sends : AllByRecursion (IsSending version) h.sends

pub record IsTrace (t : Trace) : Type 0 where
  pub version : IsTrue (nat_le 1 t.version && nat_le t.version 2)
  pub shards : IsTrue (is_shard t.shards)
  pub happenings : AllByRecursion (IsHappening t.version t.shards) t.happenings
  pub order : IsTrue (list_all is_txn t.order)
  pub few_events : length t.happenings < 2 ^ 64
  pub few_messages : sends_of t.happenings < 2 ^ 64

-- ---- reading

-- the items of texts that are read one after the other, and where the reader then stands; nothing where one of them may
-- not stand behind those before it
unfoldable pub read_lines : Standing → List (List ℕ) → Option (List TraceItem × Standing)
read_lines s [] = Some ([], s)
read_lines s (text ∷ texts) = do
  line ← line_in s text
  others ← read_lines (after s line) texts
  Some (item_of line ∷ others.0, others.1)

-- where a reader stands behind a trace
abbrev pub at_end : Trace → Standing
at_end t = record { stage = Ended; version = t.version; shards = t.shards; events = length t.happenings; messages = sends_of t.happenings }
