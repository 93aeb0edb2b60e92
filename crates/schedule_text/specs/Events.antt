-- How the line of an event is read.
use Rattle.std.specs.Prelude.{ℕ, ◌-◌, ◌^◌, Bool, true, if◌then◌else◌, List, codes, Option, Some, None, Result, Ok}
use Rattle.tcs_terms.specs.declared.inputs.Input.{Input}
use Rattle.tcs_terms.specs.declared.inputs.Input.TheVariants as inputs
use Rattle.tcs_terms.specs.declared.inputs.Event.{Event}
use Rattle.tcs_terms.specs.declared.inputs.Event.TheVariants as events
use Rattle.tcs_terms.specs.declared.limits.TheConstants.{MAX_WANTED}
use Rattle.text_words.specs.declared.words.Reason.{Reason}
use Rattle.tcs_terms.specs.Payloads.{same_name}
use Rattle.tcs_terms.specs.Setups.{Deployment}
use Rattle.schedule_text.specs.declared.verbs.CallVerb.{CallVerb}
use Rattle.schedule_text.specs.declared.verbs.CallVerb.TheVariants as calls
use Rattle.schedule_text.specs.declared.verbs.Verb.{Verb}
use Rattle.schedule_text.specs.declared.verbs.Verb.TheVariants as verbs
use Rattle.schedule_text.specs.Words.{is_for, end_at, between_at, caller_at, name_at, payload_words_at, txn_at, nodes_at}
use Rattle.text_words.specs.PayloadWords.{◌>>=◌}

-- ---- first words

-- the call that a word names
abbrev pub call_verb : List ℕ → Option CallVerb
call_verb word =
    if same_name word (codes "certify") then Some calls.Certify
    else if same_name word (codes "take") then Some calls.Take
    else if same_name word (codes "nudge") then Some calls.Nudge
    else if same_name word (codes "move") then Some calls.Move
    else if same_name word (codes "lower") then Some calls.Lower
    else if same_name word (codes "read") then Some calls.Read
    else if same_name word (codes "ask") then Some calls.Ask
    else None

abbrev pub verb_or : Option CallVerb → Option Verb
verb_or (Some call) = Some (verbs.Call call)
verb_or None = None

-- the kind of event that the first word of its line names
abbrev pub verb_of : List ℕ → Option Verb
verb_of word =
    if same_name word (codes "deliver") then Some verbs.Deliver
    else if same_name word (codes "stop") then Some verbs.Stop
    else verb_or (call_verb word)

-- ---- calls, after their node

-- a node's number is followed by nothing
unfoldable pub alone_at : Input → List (List ℕ) → Result Input Reason
alone_at input words = do
  end ← end_at words
  Ok input

unfoldable pub certify_at : Deployment → List (List ℕ) → Result Input Reason
certify_at d words = do
  payload ← payload_words_at d.version words
  Ok (inputs.Certify payload)

unfoldable pub take_at : Deployment → List (List ℕ) → Result Input Reason
take_at d words = do
  txn ← txn_at d.nodes words
  end ← end_at txn.1
  Ok (inputs.Take txn.0)

-- at most 6 wanted nodes, ascending, of the shard
unfoldable pub move_at : Deployment → List (List ℕ) → Result Input Reason
move_at d words = do
  shard ← between_at 1 d.shards words
  want ← nodes_at d.nodes shard.0 MAX_WANTED 0 shard.1
  Ok (inputs.Move shard.0 want)

unfoldable pub read_at : List (List ℕ) → Result Input Reason
read_at words = do
  name ← name_at words
  end ← end_at name.1
  Ok (inputs.ReadName name.0)

unfoldable pub ask_at : Deployment → List (List ℕ) → Result Input Reason
ask_at d words = do
  shard ← between_at 1 d.shards words
  end ← end_at shard.1
  Ok (inputs.Ask shard.0)

abbrev pub input_at : Deployment → CallVerb → List (List ℕ) → Result Input Reason
input_at d calls.Certify words = certify_at d words
input_at d calls.Take words = take_at d words
input_at d calls.Nudge words = alone_at inputs.Nudge words
input_at d calls.Move words = move_at d words
input_at d calls.Lower words = alone_at inputs.Lower words
input_at d calls.Read words = read_at words
input_at d calls.Ask words = ask_at d words

-- ---- events, after their first word

unfoldable pub call_at : Option ℕ → Deployment → CallVerb → List (List ℕ) → Result Event Reason
call_at only d verb words = do
  node ← caller_at only d.nodes words
  input ← input_at d verb node.1
  Ok (events.Call node.0 input)

-- a message has a number from 1 to 4,294,967,295
unfoldable pub delivery_at : List (List ℕ) → Result Event Reason
delivery_at words = do
  number ← between_at 1 (2 ^ 32 - 1) words
  end ← end_at number.1
  Ok (events.DeliverNumber number.0)

unfoldable pub stop_at : Option ℕ → Deployment → List (List ℕ) → Result Event Reason
stop_at only d words = do
  node ← caller_at only d.nodes words
  end ← end_at node.1
  Ok (events.Stop node.0)

-- an event of a run of the setup, where only this node may be named, if any
abbrev pub event_at : Option ℕ → Deployment → Verb → List (List ℕ) → Result Event Reason
event_at only d (verbs.Call call) words = call_at only d call words
event_at only d verbs.Deliver words = delivery_at words
event_at only d verbs.Stop words = stop_at only d words

-- whether an event is at this node, if one is said; a delivery is at none
abbrev pub names_only : Option ℕ → Event → Bool
names_only only (events.Call node input) = is_for only node
names_only only (events.DeliverNumber number) = true
names_only only (events.Stop node) = is_for only node
