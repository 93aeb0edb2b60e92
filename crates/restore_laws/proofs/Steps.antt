-- The three steps that put an object back.
use Rattle.std.proofs.Common.{◌≡◌, ℕ, ◌+◌, ◌==◌, ◌≤◌, ◌&&◌, ◌||◌, Bool, true, false, cond, List, [], ◌∷◌, ◌++◌, Option, Some, None, length, sum, ap, refl, ◌∙◌, le-leb}
use Rattle.std.proofs.Math.Nat.{mod-one}
use Rattle.tcs_terms.specs.declared.ids.TxId.{TxId}
use Rattle.tcs_terms.specs.declared.inputs.Handled.TheVariants.{Full}
use Rattle.tcs_terms.specs.declared.inputs.Note.{Note}
use Rattle.tcs_terms.specs.declared.logs.Row.{Row}
use Rattle.tcs_terms.specs.declared.messages.Message.TheVariants.{Prepare, PrepareAck, DecisionFor, OutcomeOf}
use Rattle.tcs_terms.specs.declared.votes.Vote.{Vote}
use Rattle.tcs_terms.specs.declared.votes.Vote.TheVariants as votes
use Rattle.tcs_terms.specs.declared.votes.Decision.TheVariants as decisions
use Rattle.tcs_terms.specs.Payloads.{Accesses}
use Rattle.tcs_terms.specs.Preparations.{Preparation}
use Rattle.tcs_terms.specs.Shards.{lies_in, shards_of, restricted}
use Rattle.tcs_laws.specs.Votes.{vote_on}
use Rattle.cert_serial.specs.Serial.{serial}
use Rattle.protocol.proofs.OpenAll.{open_all}
use Rattle.protocol.specs.Cases.{new_case, send_case}
use Rattle.protocol.specs.Choices.{when}
use Rattle.protocol.specs.ClientRules.{begins_txn, coordinates}
use Rattle.protocol.specs.Coordination.{begins, begin_case, in_case, prepare_ack_in, on_prepare_ack}
use Rattle.protocol.specs.Log.{row_of, is_full, last_slot, new_entry, undecided}
use Rattle.protocol.specs.Outcomes.{Out, to, acts, tells, rests}
use Rattle.protocol.specs.Records.{Case, Coordinator, NodeRecord}
use Rattle.protocol.specs.ShardRules.{prepared, with_rows}
use Rattle.protocol.specs.Table.{noticed}
use Rattle.protocol.specs.World.{World, Sent, happens_at, deliver_if_sent, message_of, world_step}
use Rattle.protocol.specs.Worked.Words.{txn, entry, reads, writes, payload, certify, deliver, begin, decide, acted}
use Rattle.protocol_laws.proofs.SameTxn.{same_txn-self}
use Rattle.backup_machine.specs.declared.objects.Kept.{Kept}
use Rattle.restore_laws.specs.Schedules.{payload_of}
use Rattle.restore_laws.proofs.Worlds.{only_config, node_with, world_with, asked_case, entry_of, prepare_of, answer_of, decision_of, outcome_of}

-- each object lies in the one shard
lies-one : (name : List ℕ) → lies_in 1 1 name ≡ true
lies-one name = ap (λ (n : ℕ). n + 1 == 1) (mod-one (sum name))

shards-one : (k : Kept) → shards_of 1 (payload_of k) ≡ 1 ∷ []
shards-one k = ap (λ (b : Bool). cond (b || false) (1 ∷ []) []) (lies-one k.name)

restricted-one : (k : Kept) → restricted 1 1 (payload_of k) ≡ Some (payload_of k)
restricted-one k = ap
    (λ (b : Bool). cond ((length (cond b (reads k.name 0 ∷ []) []) == 0) && true) None (Some (payload (cond b (reads k.name 0 ∷ []) []) [] (cond b (writes k.name k.value ∷ []) []) k.version)))
    (lies-one k.name)

-- a coordinator with these cases
abbrev coordinator_with : List (TxId × Case) → Coordinator
coordinator_with cases = record { views = only_config ∷ []; cases = cases }

-- the case of an object's transaction begins
begun : (n : ℕ) (k : Kept) → begin_case (coordinator_with []) (txn 1 n) (payload_of k)
    ≡ acts (coordinator_with ((txn 1 n, asked_case (payload_of k)) ∷ [])) (to 1 (Prepare 1 (txn 1 n) (1 ∷ []) (Some (payload_of k))) ∷ [])
unfolding open_all
begun n k =
    ap (λ (s : List ℕ). acts (begins (coordinator_with []) (txn 1 n) (new_case s (Some (payload_of k)))) (send_case (only_config ∷ []) (txn 1 n) (new_case s (Some (payload_of k))))) (shards-one k)
    ∙ ap (λ (p : Option Accesses). acts (coordinator_with ((txn 1 n, asked_case (payload_of k)) ∷ [])) (to 1 (Prepare 1 (txn 1 n) (1 ∷ []) p) ∷ [])) (restricted-one k)

-- the transaction of an object is certified: its preparation is sent
pub certifies : (n : ℕ) (rows : List Row) (messages : List Sent) (history : List Note) (k : Kept) → n ≤ 1000000
    → world_step serial 2 (world_with n rows [] messages history) (certify 1 (payload_of k)) ≡ record {
      result = acted;
      notes = begin (txn 1 n) (payload_of k) ∷ [];
      sent = prepare_of n (payload_of k) ∷ [];
      after = world_with (n + 1) rows ((txn 1 n, asked_case (payload_of k)) ∷ []) (messages ++ prepare_of n (payload_of k) ∷ []) (history ++ begin (txn 1 n) (payload_of k) ∷ []);
    }
unfolding open_all
certifies n rows messages history k few =
    let w : World = world_with n rows [] messages history in
    let node : NodeRecord = node_with n rows [] in
    ap (λ (b : Bool). happens_at w 1 (when b (begins_txn node (payload_of k) (begin_case (coordinator_with []) (txn 1 n) (payload_of k))) (rests Full node))) (le-leb n 1000000 few)
    ∙ ap (λ (o : Out Coordinator). happens_at w 1 (begins_txn node (payload_of k) o)) (begun n k)

-- a new transaction whose vote is to commit is prepared in the next slot
prepared-new : (node : NodeRecord) (n : ℕ) (p : Accesses) → node.shard ≡ 1 → row_of node.rows (txn 1 n) ≡ None → is_full node.rows ≡ false → last_slot node.rows + 1 ≡ n → vote_on serial node.rows p ≡ votes.Commit
    → prepared serial node 1 1 (txn 1 n) (1 ∷ []) (Some p) (row_of node.rows (txn 1 n)) ≡ acts (with_rows node (node.rows ++ undecided (entry_of n p) ∷ [])) (to 1 (PrepareAck 1 1 (entry_of n p)) ∷ [])
unfolding when
prepared-new node n p shard new room slot vote =
    let made : Preparation = new_entry serial node.rows (txn 1 n) (1 ∷ []) (Some p) in
    let answer : ℕ → Preparation → Out NodeRecord = λ s e. acts (with_rows node (node.rows ++ undecided e ∷ [])) (to 1 (PrepareAck s 1 e) ∷ []) in
    ap (λ (o : Option Row). prepared serial node 1 1 (txn 1 n) (1 ∷ []) (Some p) o) new
    ∙ ap (λ (b : Bool). when b (rests Full node) (answer node.shard made)) room
    ∙ ap (λ (s : ℕ). answer s made) shard
    ∙ ap (λ (s : ℕ). answer 1 (entry s (txn 1 n) (1 ∷ []) (Some p) (vote_on serial node.rows p))) slot
    ∙ ap (λ (v : Vote). answer 1 (entry n (txn 1 n) (1 ∷ []) (Some p) v)) vote

-- the preparation is delivered: the transaction is voted on, and the answer is sent
pub prepares : (next n number : ℕ) (rows : List Row) (cases : List (TxId × Case)) (messages : List Sent) (history : List Note) (p : Accesses) → message_of messages number ≡ Some (prepare_of n p)
    → row_of rows (txn 1 n) ≡ None → is_full rows ≡ false → last_slot rows + 1 ≡ n → vote_on serial rows p ≡ votes.Commit
    → world_step serial 2 (world_with next rows cases messages history) (deliver number) ≡ record {
      result = acted;
      notes = [];
      sent = answer_of n p ∷ [];
      after = world_with next (rows ++ undecided (entry_of n p) ∷ []) cases (messages ++ answer_of n p ∷ []) (history ++ []);
    }
unfolding open_all
prepares next n number rows cases messages history p there new room slot vote =
    let w : World = world_with next rows cases messages history in
    let node : NodeRecord = node_with next rows cases in
    ap (λ (o : Option Sent). deliver_if_sent serial 2 w o) there
    ∙ ap (λ (o : Out NodeRecord). happens_at w 1 (noticed node 1 1 o)) (prepared-new node n p refl new room slot vote)

-- the one shard voted, and has no followers: the case is complete, and its decision is told
decided : (n : ℕ) (p : Accesses) → on_prepare_ack (coordinator_with ((txn 1 n, asked_case p) ∷ [])) 1 1 1 (entry_of n p)
    ≡ tells (coordinator_with []) (to 1 (DecisionFor 1 n (txn 1 n) true) ∷ to 1 (OutcomeOf (txn 1 n) decisions.Commit) ∷ []) (decide (txn 1 n) decisions.Commit ∷ [])
unfolding open_all
decided n p =
    ap (λ (b : Bool). in_case (coordinator_with ((txn 1 n, asked_case p) ∷ [])) 1 1 (prepare_ack_in (coordinator_with ((txn 1 n, asked_case p) ∷ [])) 1 1 (entry_of n p)) (cond b (Some (asked_case p)) None)) (same_txn-self (txn 1 n))
    ∙ ap (λ (b : Bool). tells (coordinator_with (cond b [] ((txn 1 n, asked_case p) ∷ []))) (to 1 (DecisionFor 1 n (txn 1 n) true) ∷ to 1 (OutcomeOf (txn 1 n) decisions.Commit) ∷ []) (decide (txn 1 n) decisions.Commit ∷ [])) (same_txn-self (txn 1 n))

-- the answer is delivered: the transaction commits
pub decides : (next n number : ℕ) (rows : List Row) (messages : List Sent) (history : List Note) (p : Accesses) → message_of messages number ≡ Some (answer_of n p)
    → world_step serial 2 (world_with next rows ((txn 1 n, asked_case p) ∷ []) messages history) (deliver number) ≡ record {
      result = acted;
      notes = decide (txn 1 n) decisions.Commit ∷ [];
      sent = decision_of n ∷ outcome_of n ∷ [];
      after = world_with next rows [] (messages ++ decision_of n ∷ outcome_of n ∷ []) (history ++ decide (txn 1 n) decisions.Commit ∷ []);
    }
unfolding open_all
decides next n number rows messages history p there =
    let w : World = world_with next rows ((txn 1 n, asked_case p) ∷ []) messages history in
    let node : NodeRecord = node_with next rows ((txn 1 n, asked_case p) ∷ []) in
    ap (λ (o : Option Sent). deliver_if_sent serial 2 w o) there
    ∙ ap (λ (o : Out Coordinator). happens_at w 1 (noticed node 1 2 (coordinates node o))) (decided n p)
