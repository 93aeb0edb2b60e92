-- The causes of aborts, as tests of a history.
use Rattle.std.proofs.Common.{◌≡◌, ℕ, true, not, List, [], ◌∷◌, ◌++◌, Some, sym, subst, refl}
use Rattle.std.proofs.lemmas.Bool.{and_from, false_from_ne_true, not_from_false}
use Rattle.tcs_terms.specs.declared.ids.TxId.{TxId}
use Rattle.tcs_terms.specs.declared.inputs.Note.{Note}
use Rattle.tcs_terms.specs.declared.inputs.Note.TheVariants.{Begin, Take, ReadValue, Decide}
use Rattle.tcs_terms.specs.declared.votes.Cause.TheVariants.{Clash, Lost}
use Rattle.tcs_terms.specs.declared.votes.Decision.{Decision}
use Rattle.tcs_terms.specs.declared.votes.Decision.TheVariants.{Commit, Abort}
use Rattle.tcs_terms.specs.Logs.{same_txn}
use Rattle.tcs_laws.specs.Laws.{IsLawful}
use Rattle.tcs_laws.specs.Certification.{Tests, prepared_passes_in}
use Rattle.protocol.specs.CorrectHistory.{clash_in, clash_after_by, clash_after, names_clashes, lost_after_by, lost_after, names_losses}
use Rattle.protocol.specs.History.{payload_in, takes}
use Rattle.protocol_laws.proofs.CausesNow.{HaveFormed, NamesClash}
use Rattle.protocol_laws.proofs.CorrectOrder.{formed-front}
use Rattle.protocol_laws.proofs.HistoryKept.{DecisionStands, HistoryHolds}
use Rattle.protocol_laws.proofs.WithPast.{all-with_past}
use Rattle.protocol_laws.proofs.SameTxn.{same_txn-eq, same_txn-self}
use Rattle.protocol_laws.proofs.Standing.{any-from}

-- what is lost was taken over
lost_by : (tests : Tests) (n : ℕ) (before : List Note) (txn : TxId) (decision : Decision) → DecisionStands tests n before txn decision → lost_after_by before txn decision ≡ true
lost_by tests n before txn Commit d = refl
lost_by tests n before txn (Abort shard (Clash other)) d = refl
lost_by tests n before txn (Abort shard Lost) d = any-from (takes txn) before (Take txn) (d.lost shard refl) (same_txn-self txn)

pub history-loses : (tests : Tests) (n : ℕ) (h : List Note) → HistoryHolds tests n h → names_losses h ≡ true
history-loses tests n h holds = all-with_past (λ e. lost_after e.0 e.1) h each
  where
    each : (before : List Note) (x : Note) (after : List Note) → h ≡ before ++ (x ∷ after) → lost_after before x ≡ true
    each before (Begin txn payload) after e = refl
    each before (Take txn) after e = refl
    each before (ReadValue name version value) after e = refl
    each before (Decide txn decision) after e = lost_by tests n before txn decision (holds.each before after txn decision e)

-- a clash is named rightly
clash_by : (tests : Tests) (n : ℕ) (before : List Note) (txn : TxId) (decision : Decision) → IsLawful tests → HaveFormed before → DecisionStands tests n before txn decision → clash_after_by tests n before txn decision ≡ true
clash_by tests n before txn Commit lawful formed d = refl
clash_by tests n before txn (Abort shard Lost) lawful formed d = refl
clash_by tests n before txn (Abort shard (Clash other)) lawful formed d =
    let c : NamesClash tests n before txn d.payload shard other = d.clash lawful formed shard other refl in
    and_from (not (same_txn other txn)) (clash_in tests n shard (payload_in before other) (payload_in before txn))
    (not_from_false (same_txn other txn) (false_from_ne_true (same_txn other txn) (λ e. c.differs (same_txn-eq other txn e))))
    (subst (λ o. clash_in tests n shard o (payload_in before txn) ≡ true) (sym c.begun)
    (subst (λ o. clash_in tests n shard (Some c.old) o ≡ true) (sym d.begun)
    (not_from_false (prepared_passes_in tests n shard (c.old ∷ []) d.payload) c.fails)))

pub history-clashes : (tests : Tests) (n : ℕ) (h : List Note) → IsLawful tests → HaveFormed h → HistoryHolds tests n h → names_clashes tests n h ≡ true
history-clashes tests n h lawful formed holds = all-with_past (λ e. clash_after tests n e.0 e.1) h each
  where
    each : (before : List Note) (x : Note) (after : List Note) → h ≡ before ++ (x ∷ after) → clash_after tests n before x ≡ true
    each before (Begin txn payload) after e = refl
    each before (Take txn) after e = refl
    each before (ReadValue name version value) after e = refl
    each before (Decide txn decision) after e = clash_by tests n before txn decision lawful (formed-front h before (Decide txn decision ∷ after) e formed) (holds.each before after txn decision e)
