-- What is kept of the notes so far while a history is gone through, and what it tells of the next note.
use Rattle.std.specs.Prelude.{◌≡◌, ℕ, Bool, true, not, ◌&&◌, if◌then◌else◌, is_some, List, [], ◌∷◌, ◌++◌, Option, Some, None}
use Rattle.std.specs.List.{list_all, list_any}
use Rattle.std.specs.Map.{lookup}
use Rattle.tcs_terms.specs.declared.ids.TxId.{TxId}
use Rattle.tcs_terms.specs.declared.inputs.Note.{Note}
use Rattle.tcs_terms.specs.declared.inputs.Note.TheVariants.{Begin, Take, ReadValue, Decide}
use Rattle.tcs_terms.specs.declared.votes.Cause.{Cause}
use Rattle.tcs_terms.specs.declared.votes.Cause.TheVariants.{Clash, Lost}
use Rattle.tcs_terms.specs.declared.votes.Decision.{Decision}
use Rattle.tcs_terms.specs.declared.votes.Decision.TheVariants.{Commit, Abort}
use Rattle.tcs_terms.specs.Logs.{same_txn}
use Rattle.tcs_terms.specs.Payloads.{Accesses}
use Rattle.tcs_laws.specs.Certification.{Tests}
use Rattle.protocol.specs.History.{payload_in, has_begun, takes}
use Rattle.protocol.specs.CorrectHistory.{same_decision, agrees_with, clash_in}

-- ---- how it changes

-- with what is kept of a transaction, unless something is
abbrev pub with_first : {V : Type 0} → List (TxId × V) → TxId → V → List (TxId × V)
with_first kept txn value = if is_some (lookup (same_txn txn) kept) then kept else kept ++ (txn, value) ∷ []

-- with a transaction, unless it is there
abbrev pub with_txn : List TxId → TxId → List TxId
with_txn kept txn = if list_any (same_txn txn) kept then kept else kept ++ txn ∷ []

-- with a transaction, if there is one
abbrev pub put_next : List TxId → Option TxId → List TxId
put_next kept None = kept
put_next kept (Some txn) = with_txn kept txn

-- the payloads of the transactions that have begun, with one note more
abbrev pub payloads_with : List (TxId × Accesses) → Note → List (TxId × Accesses)
payloads_with payloads (Begin txn payload) = with_first payloads txn payload
payloads_with payloads (Take txn) = payloads
payloads_with payloads (ReadValue name version value) = payloads
payloads_with payloads (Decide txn decision) = payloads

-- the transactions that have begun
abbrev pub begun_with : List TxId → Note → List TxId
begun_with begun (Begin txn payload) = with_txn begun txn
begun_with begun (Take txn) = begun
begun_with begun (ReadValue name version value) = begun
begun_with begun (Decide txn decision) = begun

-- the first decision of each transaction
abbrev pub decisions_with : List (TxId × Decision) → Note → List (TxId × Decision)
decisions_with decisions (Begin txn payload) = decisions
decisions_with decisions (Take txn) = decisions
decisions_with decisions (ReadValue name version value) = decisions
decisions_with decisions (Decide txn decision) = with_first decisions txn decision

-- the transactions that were taken over
abbrev pub taken_with : List TxId → Note → List TxId
taken_with taken (Begin txn payload) = taken
taken_with taken (Take txn) = with_txn taken txn
taken_with taken (ReadValue name version value) = taken
taken_with taken (Decide txn decision) = taken

-- ---- what it tells

-- whether a decision is the one that is kept, if one is
abbrev pub decided_so : Decision → Option Decision → Bool
decided_so decision None = true
decided_so decision (Some kept) = same_decision kept decision

-- whether a note agrees
abbrev pub agrees_now : List TxId → List (TxId × Decision) → Note → Bool
agrees_now begun decisions (Begin txn payload) = true
agrees_now begun decisions (Take txn) = true
agrees_now begun decisions (ReadValue name version value) = true
agrees_now begun decisions (Decide txn decision) =
    list_any (same_txn txn) begun && decided_so decision (lookup (same_txn txn) decisions)

-- whether a cause names a clash rightly, if it names one
abbrev pub clash_named : Tests → ℕ → List (TxId × Accesses) → TxId → ℕ → Cause → Bool
clash_named tests n payloads txn shard (Clash other) =
    not (same_txn other txn) && clash_in tests n shard (lookup (same_txn other) payloads) (lookup (same_txn txn) payloads)
clash_named tests n payloads txn shard Lost = true

abbrev pub clash_decided : Tests → ℕ → List (TxId × Accesses) → TxId → Decision → Bool
clash_decided tests n payloads txn Commit = true
clash_decided tests n payloads txn (Abort shard cause) = clash_named tests n payloads txn shard cause

abbrev pub clash_now : Tests → ℕ → List (TxId × Accesses) → Note → Bool
clash_now tests n payloads (Begin txn payload) = true
clash_now tests n payloads (Take txn) = true
clash_now tests n payloads (ReadValue name version value) = true
clash_now tests n payloads (Decide txn decision) = clash_decided tests n payloads txn decision

-- whether a lost transaction was taken over, if it is lost
abbrev pub loss_named : List TxId → TxId → Cause → Bool
loss_named taken txn (Clash other) = true
loss_named taken txn Lost = list_any (same_txn txn) taken

abbrev pub loss_decided : List TxId → TxId → Decision → Bool
loss_decided taken txn Commit = true
loss_decided taken txn (Abort shard cause) = loss_named taken txn cause

abbrev pub lost_now : List TxId → Note → Bool
lost_now taken (Begin txn payload) = true
lost_now taken (Take txn) = true
lost_now taken (ReadValue name version value) = true
lost_now taken (Decide txn decision) = loss_decided taken txn decision

-- ---- what it stands for

-- the payload of each transaction that has begun
pub record ArePayloads (payloads : List (TxId × Accesses)) (past : List Note) : Type 0 where
  pub has : (txn : TxId) → lookup (same_txn txn) payloads ≡ payload_in past txn

-- which transactions have begun, and how each was decided: all decisions of one are that one
pub record AreDecisions (begun : List TxId) (decisions : List (TxId × Decision)) (past : List Note) : Type 0 where
  pub has : (txn : TxId) → list_any (same_txn txn) begun ≡ has_begun past txn
  pub agree : (txn : TxId) (decision : Decision) → list_all (agrees_with txn decision) past ≡ decided_so decision (lookup (same_txn txn) decisions)

-- which transactions were taken over
pub record AreTaken (taken : List TxId) (past : List Note) : Type 0 where
  pub has : (txn : TxId) → list_any (same_txn txn) taken ≡ list_any (takes txn) past
