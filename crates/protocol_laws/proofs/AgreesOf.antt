-- Agreement, as a test of a history: all decisions of a transaction are equal, each after its beginning.
use Rattle.std.proofs.Common.{◌≡◌, Bool, true, false, not, List, ◌∷◌, ◌++◌, ◌||◌, ◌==◌, ap, subst, refl, eq-eqb, ℕ, is_some}
use Rattle.std.specs.List.{list_all}
use Rattle.tcs_terms.specs.declared.ids.TxId.{TxId}
use Rattle.tcs_terms.specs.declared.inputs.Note.{Note}
use Rattle.tcs_terms.specs.declared.inputs.Note.TheVariants.{Begin, Take, ReadValue, Decide}
use Rattle.tcs_terms.specs.declared.votes.Cause.{Cause}
use Rattle.tcs_terms.specs.declared.votes.Cause.TheVariants.{Clash, Lost}
use Rattle.tcs_terms.specs.declared.votes.Decision.{Decision}
use Rattle.tcs_terms.specs.declared.votes.Decision.TheVariants.{Commit, Abort}
use Rattle.tcs_terms.specs.Logs.{same_txn}
use Rattle.tcs_terms.proofs.BoolLaws.{both}
use Rattle.protocol.specs.CorrectHistory.{same_cause, same_decision, agrees_with, agrees_after, agrees}
use Rattle.protocol.specs.History.{has_begun}
use Rattle.protocol.specs.Invariant.Time.{StandsIn}
use Rattle.protocol_laws.proofs.Standing.{all-from}
use Rattle.protocol_laws.proofs.WithPast.{all-with_past}
use Rattle.protocol_laws.proofs.SameTxn.{same_txn-eq, same_txn-self}
use Rattle.protocol_laws.proofs.HistoryKept.{DecisionStands, HistoryHolds}
use Rattle.tcs_laws.specs.Certification.{Tests}

-- a cause and a decision are one with themselves
same_cause-self : (c : Cause) → same_cause c c ≡ true
same_cause-self (Clash t) = same_txn-self t
same_cause-self Lost = refl

same_decision-self : (d : Decision) → same_decision d d ≡ true
same_decision-self Commit = refl
same_decision-self (Abort shard cause) = both (shard == shard) (same_cause cause cause) (eq-eqb shard shard refl) (same_cause-self cause)

agrees_with-of : (txn : TxId) (decision : Decision) (n : Note) → ((other : Decision) → n ≡ Decide txn other → other ≡ decision) → agrees_with txn decision n ≡ true
agrees_with-of txn decision (Begin other payload) h = refl
agrees_with-of txn decision (Take other) h = refl
agrees_with-of txn decision (ReadValue name version value) h = refl
agrees_with-of txn decision (Decide other d) h = go (same_txn other txn) refl
  where
    go : (b : Bool) → same_txn other txn ≡ b → (not b || same_decision d decision) ≡ true
    go false e = refl
    go true e = let same : d ≡ decision = h d (ap (λ t. Decide t d) (same_txn-eq other txn e)) in subst (λ x. same_decision d x ≡ true) same (same_decision-self d)

agrees_after-of : (tests : Tests) (n : ℕ) (h before : List Note) (note : Note) (after : List Note) → HistoryHolds tests n h → h ≡ before ++ (note ∷ after) → agrees_after before note ≡ true
agrees_after-of tests n h before (Begin txn payload) after holds e = refl
agrees_after-of tests n h before (Take txn) after holds e = refl
agrees_after-of tests n h before (ReadValue name version value) after holds e = refl
agrees_after-of tests n h before (Decide txn decision) after holds e =
    let d : DecisionStands tests n before txn decision = holds.each before after txn decision e in
    both (has_begun before txn) (list_all (agrees_with txn decision) before) (ap is_some d.begun)
    (all-from (agrees_with txn decision) before (λ m s. agrees_with-of txn decision m (λ other k. d.agrees other (subst (λ x. StandsIn x before) k s))))

pub agrees-of : (tests : Tests) (n : ℕ) (h : List Note) → HistoryHolds tests n h → agrees h ≡ true
agrees-of tests n h holds = all-with_past (λ e. agrees_after e.0 e.1) h (λ before note after e. agrees_after-of tests n h before note after holds e)
