-- Whatever a node does, it has no case open of a transaction that it is to make yet.
use Rattle.std.proofs.Common.{◌≡◌, ℕ, ◌+◌, Bool, true, false, not, ◌||◌, List, [], ◌∷◌, None, refl, arith}
use Rattle.std.specs.Prelude.{◌==◌, nat_lt}
use Rattle.std.specs.List.{list_all}
use Rattle.std.specs.Map.{lookup}
use Rattle.std.proofs.lemmas.Bool.Decides.{nat_tests}
use Rattle.tcs_terms.specs.declared.ids.TxId.{TxId}
use Rattle.tcs_terms.specs.declared.inputs.Input.{Input}
use Rattle.tcs_terms.specs.declared.messages.Outgoing.{Outgoing}
use Rattle.tcs_terms.specs.Logs.{same_txn}
use Rattle.tcs_terms.specs.Places.{Membership}
use Rattle.tcs_terms.proofs.BoolLaws.{left_of, right_of}
use Rattle.tcs_laws.specs.Certification.{Tests}
use Rattle.protocol.specs.ClientRules.{may_exist, next_txn}
use Rattle.protocol.specs.Coordination.{ask_again, case_of, change_view}
use Rattle.protocol.specs.Outcomes.{Out}
use Rattle.protocol.specs.Records.{Case, Coordinator, NodeRecord}
use Rattle.protocol_laws.specs.Effect.{GoesOn, Waiting, Decides, Sees, Replaces, Keeps, Effect, Certifies, TakesOver, Votes, Acknowledges, Changes, Learns}
use Rattle.node_core.proofs.Keys.{each, each_set, each_removed, each_mapped, each_added, each_weaker}

-- what may exist may do so later
given_later : (name next : ℕ) (txn : TxId) → (not (txn.home == name) || nat_lt txn.seq next) ≡ true → (not (txn.home == name) || nat_lt txn.seq (next + 1)) ≡ true
given_later name next txn h = go (txn.home == name) h where
  go : (b : Bool) → (not b || nat_lt txn.seq next) ≡ true → (not b || nat_lt txn.seq (next + 1)) ≡ true
  go true h = grind (arith, nat_tests)
  go false h = refl

-- and so may the next transaction, then
given_now : (name next : ℕ) → (not (name == name) || nat_lt next (next + 1)) ≡ true
given_now name next = grind (arith, nat_tests)

module _ (p : TxId → Bool) where
  goes_on_each : (c : Coordinator) (txn : TxId) (case : Case) (sends : List Outgoing) (out : Out Coordinator)
      → each p c.cases ≡ true → GoesOn c txn case sends out → each p out.kept.cases ≡ true
  goes_on_each c txn case sends out h (Waiting incomplete) = each_set p (same_txn txn) c.cases case h
  goes_on_each c txn case sends out h (Decides complete) = each_removed p (same_txn txn) c.cases h

  changes_each : (c : Coordinator) (config : Membership) → each p c.cases ≡ true → each p (change_view c config).cases ≡ true
  unfolding change_view
  changes_each c config h = each_mapped p (ask_again config.shard) c.cases h

  sees_each : (c : Coordinator) (config : Membership) (kept : Coordinator) (sends : List Outgoing)
      → each p c.cases ≡ true → Sees c config kept sends → each p kept.cases ≡ true
  sees_each c config kept sends h (Replaces newer) = changes_each c config h
  sees_each c config kept sends h (Keeps older) = h

pub given_after : (tests : Tests) (version : ℕ) (node : NodeRecord) (input : Input) (out : Out NodeRecord)
    → list_all (λ e. may_exist node e.0) node.coordinator.cases ≡ true → Effect tests version node input out → list_all (λ e. may_exist out.kept e.0) out.kept.coordinator.cases ≡ true
given_after tests version node input out h (Certifies payload low case is) =
    let later : TxId → Bool = λ t. not (t.home == node.name) || nat_lt t.seq (node.next + 1) in
    each_added later node.coordinator.cases (next_txn node, case)
    (each_weaker (may_exist node) later (given_later node.name node.next) node.coordinator.cases h) (given_now node.name node.next)
given_after tests version node input out h (TakesOver txn row found undecided none exists case is) = each_added (may_exist node) node.coordinator.cases (txn, case) h exists
given_after tests version node input out h (Votes from shard epoch entry case part view opened a b c after goes) = goes_on_each (may_exist node) node.coordinator _ _ _ after h goes
given_after tests version node input out h (Acknowledges from shard epoch slot txn case part view opened a b c after goes) = goes_on_each (may_exist node) node.coordinator _ _ _ after h goes
given_after tests version node input out h (Changes from config newer) = changes_each (may_exist node) node.coordinator config h
given_after tests version node input out h (Learns from config coordinator sent stage asked sees hears) = sees_each (may_exist node) node.coordinator config coordinator sent h sees
given_after tests version node input out h _ = h

-- the next transaction has no case
pub next_absent : (node : NodeRecord) → list_all (λ e. may_exist node e.0) node.coordinator.cases ≡ true → case_of node.coordinator (next_txn node) ≡ None
next_absent node h = absent node.coordinator.cases h where
  differs : (t : TxId) → may_exist node t ≡ true → same_txn (next_txn node) t ≡ false
  differs t exists = grind (arith, nat_tests)

  absent : (es : List (TxId × Case)) → list_all (λ e. may_exist node e.0) es ≡ true → lookup (same_txn (next_txn node)) es ≡ None
  absent [] h = refl
  absent (e ∷ es) h = rw (differs e.0 (left_of (may_exist node e.0) _ h)) (absent es (right_of (may_exist node e.0) _ h))
