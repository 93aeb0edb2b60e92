-- The verdict on a correct history, told with its own order.
use Rattle.std.proofs.Common.{◌≡◌, ℕ, List, [], ◌∷◌, Option, Some, None, refl, ◌∙◌}
use Rattle.std.proofs.lemmas.Bool.{cond-true}
use Rattle.tcs_terms.specs.declared.ids.TxId.{TxId}
use Rattle.tcs_terms.specs.declared.inputs.Note.{Note}
use Rattle.tcs_terms.specs.declared.setups.Rule.{Rule}
use Rattle.tcs_terms.specs.declared.setups.Rule.TheVariants.{Serial, Snapshot, Commute}
use Rattle.tcs_terms.specs.Logs.{same_txn}
use Rattle.tcs_laws.specs.Certification.{Tests}
use Rattle.tcs_laws.specs.Laws.{IsLawful}
use Rattle.cert_commute.specs.CommuteLaws.{commute_lawful}
use Rattle.cert_serial.specs.SerialLaws.{serial_lawful}
use Rattle.cert_snapshot.specs.SnapshotLaws.{snapshot_lawful}
use Rattle.protocol.specs.CorrectHistory.{agrees_after, clash_after, lost_after, IsCorrect}
use Rattle.protocol_laws.proofs.SameTxn.{same_txn-self}
use Rattle.judge.specs.declared.verdicts.Clause.TheVariants.{Agreement, Legality, Clash, Lost}
use Rattle.judge.specs.declared.verdicts.Verdict.{Verdict}
use Rattle.judge.specs.Verdicts.{tests_of, first_decision, first_illegal, unless_fails, counted, verdict_on, SaysCorrect}
use Rattle.judge.proofs.Exact.{exact}
use Rattle.replay_core.specs.Trace.{tests_of as tests_by}
use Rattle.audit_core.specs.Told.{first_difference}

-- each rule is lawful
pub lawful : (rule : Rule) → IsLawful (tests_by rule)
lawful Serial = serial_lawful
lawful Snapshot = snapshot_lawful
lawful Commute = commute_lawful

-- a judge has the tests of a replay
pub same_tests : (rule : Rule) → tests_of rule ≡ tests_by rule
same_tests Serial = refl
same_tests Snapshot = refl
same_tests Commute = refl

-- what says of no clause that it fails is the last of the verdicts
no_clause : (a b c d : Option TxId) (v : Verdict) → SaysCorrect (unless_fails Agreement a (unless_fails Legality b (unless_fails Clash c (unless_fails Lost d v))))
    → unless_fails Agreement a (unless_fails Legality b (unless_fails Clash c (unless_fails Lost d v))) ≡ v
no_clause (Some t) b c d v says = absurd says
no_clause None (Some t) c d v says = absurd says
no_clause None None (Some t) d v says = absurd says
no_clause None None None (Some t) v says = absurd says
no_clause None None None None v says = refl

pub cleared : (tests : Tests) (n : ℕ) (h : List Note) → IsCorrect tests n h → verdict_on tests n h ≡ counted h
cleared tests n h holds =
    no_clause (first_decision agrees_after h) (first_illegal tests h) (first_decision (clash_after tests n) h) (first_decision lost_after h) (counted h)
    ((exact tests n h (verdict_on tests n h) refl).1 holds)

-- an order does not differ from itself
pub no_difference : (order : List TxId) → first_difference order order ≡ None
no_difference [] = refl
no_difference (t ∷ ts) = cond-true (same_txn t t) (first_difference ts ts) (Some t) (same_txn-self t) ∙ no_difference ts
