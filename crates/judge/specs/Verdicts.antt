-- The verdict on a history: correct, with what was decided, or the first clause that fails, and where it first fails.
use Rattle.std.specs.Prelude.{ℕ, Bool, not, List, Option, Some, None, find, filter_map, length, ⊤}
use Rattle.tcs_terms.specs.declared.ids.TxId.{TxId}
use Rattle.tcs_terms.specs.declared.inputs.Note.{Note}
use Rattle.tcs_terms.specs.declared.inputs.Note.TheVariants.{Begin, Take, ReadValue, Decide}
use Rattle.tcs_terms.specs.declared.setups.Rule.{Rule}
use Rattle.tcs_terms.specs.declared.setups.Rule.TheVariants.{Serial, Snapshot, Commute}
use Rattle.tcs_terms.specs.declared.votes.Decision.{Decision}
use Rattle.tcs_terms.specs.declared.votes.Decision.TheVariants.{Commit, Abort}
use Rattle.tcs_laws.specs.Certification.{Tests}
use Rattle.cert_serial.specs.Serial.{serial}
use Rattle.cert_snapshot.specs.Snapshot.{snapshot}
use Rattle.cert_commute.specs.Commute.{commute}
use Rattle.protocol.specs.History.{first_of_each, order_of, payload_in, payloads_of}
use Rattle.protocol.specs.Past.{with_past}
use Rattle.protocol.specs.CorrectHistory.{agrees_after, passes_after, clash_after, lost_after}
use Rattle.judge.specs.declared.verdicts.Clause.{Clause}
use Rattle.judge.specs.declared.verdicts.Clause.TheVariants.{Agreement, Legality, Clash, Lost}
use Rattle.judge.specs.declared.verdicts.Verdict.{Verdict}
use Rattle.judge.specs.declared.verdicts.Verdict.TheVariants.{Correct, Incorrect}

-- the tests of a rule
abbrev pub tests_of : Rule → Tests
tests_of Serial = serial
tests_of Snapshot = snapshot
tests_of Commute = commute

-- the first element that does not pass a test, with those before it
abbrev pub first_failing : {X : Type 0} → (List X → X → Bool) → List X → Option (List X × X)
first_failing test xs = find (λ e. not (test e.0 e.1)) (with_past xs)

-- the transaction that a note decides, if it decides one
abbrev pub decided_in : Note → Option TxId
decided_in (Begin txn payload) = None
decided_in (Take txn) = None
decided_in (ReadValue name version value) = None
decided_in (Decide txn decision) = Some txn

-- the transaction that a decision aborts, if it does
abbrev pub aborts_by : TxId → Decision → Option TxId
aborts_by txn Commit = None
aborts_by txn (Abort shard cause) = Some txn

-- the transaction that a note decides to abort, if it is such a note
abbrev pub abort_in : Note → Option TxId
abort_in (Begin txn payload) = None
abort_in (Take txn) = None
abort_in (ReadValue name version value) = None
abort_in (Decide txn decision) = aborts_by txn decision

-- the transaction of a decision that was found
abbrev pub decision_found : Option (List Note × Note) → Option TxId
decision_found None = None
decision_found (Some e) = decided_in e.1

-- the transaction of the first decision that does not pass a test against the notes before it
abbrev pub first_decision : (List Note → Note → Bool) → List Note → Option TxId
first_decision test h = decision_found (first_failing test h)

-- the transaction at a place that was found
abbrev pub place_found : Option (List TxId × TxId) → Option TxId
place_found None = None
place_found (Some e) = Some e.1

-- the transaction at the first place in the order of commits that the certification function refuses against the
-- payloads of all places before it
abbrev pub first_illegal : Tests → List Note → Option TxId
first_illegal tests h =
    place_found (first_failing (λ before txn. passes_after tests (payloads_of h before) (payload_in h txn)) (order_of h))

-- the verdict with one clause more, which is tried first
abbrev pub unless_fails : Clause → Option TxId → Verdict → Verdict
unless_fails which None later = later
unless_fails which (Some txn) later = Incorrect which txn

-- how many transactions were decided, how many of them to commit, and how many to abort
abbrev pub counted : List Note → Verdict
counted h = Correct (length (first_of_each (filter_map decided_in h))) (length (order_of h)) (length (first_of_each (filter_map abort_in h)))

-- the verdict on a history, where the clauses before hold
abbrev pub from_lost : List Note → Verdict
from_lost h = unless_fails Lost (first_decision lost_after h) (counted h)

abbrev pub from_clash : Tests → ℕ → List Note → Verdict
from_clash tests n h = unless_fails Clash (first_decision (clash_after tests n) h) (from_lost h)

abbrev pub from_legality : Tests → ℕ → List Note → Verdict
from_legality tests n h = unless_fails Legality (first_illegal tests h) (from_clash tests n h)

-- The verdict by the tests of a rule and the number of shards: the first clause that fails, with the transaction of
-- its first failing decision, and for legality of the first failing place in the order of commits.
abbrev pub verdict_on : Tests → ℕ → List Note → Verdict
verdict_on tests n h = unless_fails Agreement (first_decision agrees_after h) (from_legality tests n h)

-- whether a verdict is that the history is correct
abbrev pub SaysCorrect : Verdict → Type 0
SaysCorrect (Correct decided committed aborted) = ⊤
SaysCorrect (Incorrect which txn) = ⊥
