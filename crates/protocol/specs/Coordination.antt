-- The rules of a node that coordinates transactions (after Bravo and Gotsman, PODC 2019).
use Rattle.std.specs.Prelude.{ℕ, Bool, true, false, ◌&&◌, ◌==◌, if◌then◌else◌, List, [], ◌∷◌, ◌++◌, filter, flat_map, map, length, Option, Some, None, is_some}
use Rattle.std.specs.Map.{lookup, set_value, remove_entry}
use Rattle.tcs_terms.specs.declared.ids.TxId.{TxId}
use Rattle.tcs_terms.specs.declared.inputs.Note.TheVariants as notes
use Rattle.tcs_terms.specs.declared.messages.Outgoing.{Outgoing}
use Rattle.tcs_terms.specs.Logs.{same_txn}
use Rattle.tcs_terms.specs.Payloads.{Accesses}
use Rattle.tcs_terms.specs.Places.{Membership, is_among}
use Rattle.tcs_terms.specs.Preparations.{Preparation}
use Rattle.tcs_terms.specs.Shards.{shards_of}
use Rattle.protocol.specs.Choices.{when}
use Rattle.protocol.specs.Outcomes.{Out, tells, acts, refuses}
use Rattle.protocol.specs.Records.{Part, Case, Coordinator}
use Rattle.protocol.specs.Views.{view_of, view_epoch, is_follower, is_older, replaced}
use Rattle.protocol.specs.Cases.{asked, new_case, part_of, put_part, prepare, accept, send_case, is_complete, decision_of, tell_decision}

-- the case of a transaction, if one is open
abbrev pub case_of : Coordinator → TxId → Option Case
case_of c txn = lookup (same_txn txn) c.cases

-- the coordinator with another state of a case
abbrev pub with_case : Coordinator → TxId → Case → Coordinator
with_case c txn case = record { views = c.views; cases = set_value (same_txn txn) c.cases case }

-- the coordinator with a case closed
abbrev pub without_case : Coordinator → TxId → Coordinator
without_case c txn = record { views = c.views; cases = remove_entry (same_txn txn) c.cases }

-- a case begins: every shard is asked
abbrev pub begins : Coordinator → TxId → Case → Coordinator
begins c txn case = record { views = c.views; cases = c.cases ++ (txn, case) ∷ [] }

-- A case of a new transaction: PREPARE to the leader of each of its shards.
unfoldable pub begin_case : Coordinator → TxId → Accesses → Out Coordinator
begin_case c txn payload = let case = new_case (shards_of (length c.views) payload) (Some payload) in
    acts (begins c txn case) (send_case c.views txn case)

-- A case of a transaction that is taken over: PREPARE without payload to the leader of each of its shards.
unfoldable pub take_over : Coordinator → TxId → List ℕ → Out Coordinator
take_over c txn shards = let case = new_case shards None in
    acts (begins c txn case) (send_case c.views txn case)

-- what is still waited for is sent again, case by case in order of opening
unfoldable pub resend : Coordinator → List Outgoing
resend c = flat_map (λ e. send_case c.views e.0 e.1) c.cases

-- After a case went on: where it is complete, the decision is noted and told and the case is closed; else it is kept.
unfoldable pub check_decision : Coordinator → TxId → Case → List Outgoing → Out Coordinator
check_decision c txn case sends = let decision = decision_of case.parts in
    when (is_complete c.views case)
    (tells (without_case c txn) (sends ++ tell_decision c.views txn case.parts decision) (notes.Decide txn decision ∷ []))
    (acts (with_case c txn case) sends)

-- the case with one part changed
abbrev pub with_part : Case → Part → Case
with_part case part = record { shards = case.shards; payload = case.payload; parts = put_part part case.parts }

-- whether an answer of this slot fits what the shard has: it is asked, or voted at that slot
abbrev pub fits_slot : Option Preparation → ℕ → Bool
fits_slot None slot = true
fits_slot (Some kept) slot = kept.slot == slot

-- the first entry that a shard voted stays
abbrev pub first_entry : Option Preparation → Preparation → Preparation
first_entry None entry = entry
first_entry (Some kept) entry = kept

-- a part with the entry that its leader answered, unless it has one
abbrev pub voted : Part → Preparation → Part
voted part entry = record { shard = part.shard; entry = Some (first_entry part.entry entry); acks = part.acks }

-- PREPARE_ACK, where the case has the shard: from the leader of the shard's view, at its epoch.
abbrev pub prepare_ack_in : Coordinator → ℕ → ℕ → Preparation → Case → Part → Membership → Out Coordinator
prepare_ack_in c from epoch entry case part view =
    when ((view.epoch == epoch) && (view.leader == from) && fits_slot part.entry entry.slot)
    (check_decision c entry.txn (with_part case (voted part entry)) (accept (first_entry part.entry entry) part.acks (Some view)))
    (refuses epoch view.epoch c)

-- whether a shard is voted with an entry of that slot
abbrev pub voted_at : Option Preparation → ℕ → Bool
voted_at None slot = false
voted_at (Some kept) slot = kept.slot == slot

-- an acknowledgement is kept once
abbrev pub add_once : List ℕ → ℕ → List ℕ
add_once nodes node = if is_among nodes node then nodes else nodes ++ node ∷ []

-- a part with a follower's acknowledgement
abbrev pub acknowledged : Part → ℕ → Part
acknowledged part from = record { shard = part.shard; entry = part.entry; acks = add_once part.acks from }

-- ACCEPT_ACK, where the case has the shard: of the voted entry's slot, from a follower of the shard's view, at its epoch.
abbrev pub accept_ack_in : Coordinator → ℕ → ℕ → ℕ → TxId → Case → Part → Membership → Out Coordinator
accept_ack_in c from epoch slot txn case part view =
    when ((view.epoch == epoch) && is_follower view from && voted_at part.entry slot)
    (check_decision c txn (with_part case (acknowledged part from)) [])
    (refuses epoch view.epoch c)

-- a rule about a shard of a case: where the node has no such case, or the case or the run no such shard, it does not act
abbrev pub in_view : Coordinator → ℕ → (Membership → Out Coordinator) → Option Membership → Out Coordinator
in_view c epoch rule None = refuses epoch 0 c
in_view c epoch rule (Some view) = rule view

-- the same, given the part, if there is one
abbrev pub in_part : Coordinator → ℕ → ℕ → (Part → Membership → Out Coordinator) → Option Part → Out Coordinator
in_part c epoch shard rule None = refuses epoch (view_epoch c.views shard) c
in_part c epoch shard rule (Some part) = in_view c epoch (rule part) (view_of c.views shard)

-- the same, given the case, if there is one
abbrev pub in_case : Coordinator → ℕ → ℕ → (Case → Part → Membership → Out Coordinator) → Option Case → Out Coordinator
in_case c epoch shard rule None = refuses epoch (view_epoch c.views shard) c
in_case c epoch shard rule (Some case) = in_part c epoch shard (rule case) (part_of case.parts shard)

-- PREPARE_ACK: an asked shard becomes voted; ACCEPT of its entry goes to each follower that has not acknowledged it.
unfoldable pub on_prepare_ack : Coordinator → ℕ → ℕ → ℕ → Preparation → Out Coordinator
on_prepare_ack c from shard epoch entry =
    in_case c epoch shard (prepare_ack_in c from epoch entry) (case_of c entry.txn)

-- ACCEPT_ACK: the acknowledgement of a follower is kept.
unfoldable pub on_accept_ack : Coordinator → ℕ → ℕ → ℕ → ℕ → TxId → Out Coordinator
on_accept_ack c from shard epoch slot txn =
    in_case c epoch shard (accept_ack_in c from epoch slot txn) (case_of c txn)

-- whether a configuration is newer than the view of its shard
abbrev pub is_newer : Coordinator → Membership → Bool
is_newer c config = is_older (view_of c.views config.shard) config

-- a case whose shard got a new view: the shard is asked again, and its acknowledgements are forgotten
abbrev pub ask_again : ℕ → Case → Case
ask_again shard case = record {
  shards = case.shards;
  payload = case.payload;
  parts = map (λ p. if p.shard == shard then asked shard else p) case.parts;
}

-- whether a case has the shard
abbrev pub has_part : Case → ℕ → Bool
has_part case shard = is_some (part_of case.parts shard)

-- the view of a shard is replaced
unfoldable pub change_view : Coordinator → Membership → Coordinator
change_view c config = record {
  views = replaced c.views config;
  cases = map (λ e. (e.0, ask_again config.shard e.1)) c.cases;
}

-- PREPARE to the new leader for each case that has the shard, in order of opening
unfoldable pub ask_leader : Coordinator → Membership → List Outgoing
ask_leader c config =
    flat_map (λ e. prepare (length c.views) e.0 e.1 (Some config)) (filter (λ e. has_part e.1 config.shard) c.cases)

-- CONFIG_CHANGE: a newer configuration replaces the view of its shard.
unfoldable pub on_config : Coordinator → Membership → Out Coordinator
on_config c config =
    when (is_newer c config)
    (acts (change_view c config) (ask_leader c config))
    (refuses config.epoch (view_epoch c.views config.shard) c)
