-- When a history is correct (the condition of Chockler and Gotsman, DISC 2018, with causes of aborts added).
use Rattle.std.specs.Prelude.{◌≡◌, ℕ, Bool, true, false, not, ◌&&◌, ◌||◌, ◌==◌, List, [], ◌∷◌, Option, Some, None}
use Rattle.std.specs.List.{list_all, list_any}
use Rattle.tcs_terms.specs.declared.ids.TxId.{TxId}
use Rattle.tcs_terms.specs.declared.inputs.Note.{Note}
use Rattle.tcs_terms.specs.declared.inputs.Note.TheVariants.{Begin, Take, ReadValue, Decide}
use Rattle.tcs_terms.specs.declared.votes.Cause.{Cause}
use Rattle.tcs_terms.specs.declared.votes.Cause.TheVariants.{Clash, Lost}
use Rattle.tcs_terms.specs.declared.votes.Decision.{Decision}
use Rattle.tcs_terms.specs.declared.votes.Decision.TheVariants.{Commit, Abort}
use Rattle.tcs_terms.specs.Logs.{same_txn}
use Rattle.tcs_terms.specs.Payloads.{Accesses}
use Rattle.tcs_laws.specs.Certification.{Tests, committed_passes, prepared_passes_in}
use Rattle.protocol.specs.History.{payload_in, has_begun, takes, order_of, payloads_of}
use Rattle.protocol.specs.Past.{with_past, stands_before}

-- whether two causes are one
abbrev pub same_cause : Cause → Cause → Bool
same_cause (Clash t) (Clash u) = same_txn t u
same_cause (Clash t) Lost = false
same_cause Lost (Clash u) = false
same_cause Lost Lost = true

-- whether two decisions are one, the shard and cause of an abort included
abbrev pub same_decision : Decision → Decision → Bool
same_decision Commit Commit = true
same_decision Commit (Abort shard cause) = false
same_decision (Abort shard cause) Commit = false
same_decision (Abort s c) (Abort t d) = (s == t) && same_cause c d

-- a note that decides the transaction decides it so
abbrev pub agrees_with : TxId → Decision → Note → Bool
agrees_with txn decision (Begin other payload) = true
agrees_with txn decision (Take other) = true
agrees_with txn decision (ReadValue name version value) = true
agrees_with txn decision (Decide other other_decision) = not (same_txn other txn) || same_decision other_decision decision

-- whether a note that decides agrees with those before it, and stands after the beginning
abbrev pub agrees_after : List Note → Note → Bool
agrees_after past (Begin txn payload) = true
agrees_after past (Take txn) = true
agrees_after past (ReadValue name version value) = true
agrees_after past (Decide txn decision) = has_begun past txn && list_all (agrees_with txn decision) past

-- Agreement: each decision stands after the transaction's beginning, and all decisions of one transaction are equal,
-- the shard and the cause of an abort included.
abbrev pub agrees : List Note → Bool
agrees h = list_all (λ e. agrees_after e.0 e.1) (with_past h)

-- whether a payload passes against those before it
abbrev pub passes_after : Tests → List Accesses → Option Accesses → Bool
passes_after tests olds None = false
passes_after tests olds (Some new) = committed_passes tests olds new

-- Legality: each committed transaction is passed by the one certification function, on whole payloads, against all
-- that stand before it in the order of first decisions.
abbrev pub is_legal : Tests → List Note → Bool
is_legal tests h = list_all (λ e. passes_after tests (payloads_of h e.0) (payload_in h e.1)) (with_past (order_of h))

-- whether a transaction that begins here stands in the order behind those that were committed before
abbrev pub in_time_after : List TxId → List Note → Note → Bool
in_time_after order past (Begin txn payload) =
    has_begun past txn || not (list_any (same_txn txn) order) || list_all (λ t. stands_before (same_txn t) (same_txn txn) order) (order_of past)
in_time_after order past (Take txn) = true
in_time_after order past (ReadValue name version value) = true
in_time_after order past (Decide txn decision) = true

-- Real time: where one committed transaction is decided before another first begins, it stands before it in the order.
abbrev pub keeps_time : List Note → Bool
keeps_time h = list_all (λ e. in_time_after (order_of h) e.0 e.1) (with_past h)

-- whether the parts of two payloads in a shard clash: the prepared test fails
abbrev pub clash_in : Tests → ℕ → ℕ → Option Accesses → Option Accesses → Bool
clash_in tests n shard None new = false
clash_in tests n shard (Some old) None = false
clash_in tests n shard (Some old) (Some new) = not (prepared_passes_in tests n shard (old ∷ []) new)

-- whether a clash is named rightly; a lost cause is another clause
abbrev pub has_cause : Tests → ℕ → List Note → TxId → ℕ → Cause → Bool
has_cause tests n past txn shard (Clash other) =
    not (same_txn other txn) && clash_in tests n shard (payload_in past other) (payload_in past txn)
has_cause tests n past txn shard Lost = true

-- the same of a decision
abbrev pub clash_after_by : Tests → ℕ → List Note → TxId → Decision → Bool
clash_after_by tests n past txn Commit = true
clash_after_by tests n past txn (Abort shard cause) = has_cause tests n past txn shard cause

-- the same of a note
abbrev pub clash_after : Tests → ℕ → List Note → Note → Bool
clash_after tests n past (Begin txn payload) = true
clash_after tests n past (Take txn) = true
clash_after tests n past (ReadValue name version value) = true
clash_after tests n past (Decide txn decision) = clash_after_by tests n past txn decision

-- Clash cause: an abort by a clash names another transaction, which began before, and whose part in the named shard
-- fails the prepared test against this one's.
abbrev pub names_clashes : Tests → ℕ → List Note → Bool
names_clashes tests n h = list_all (λ e. clash_after tests n e.0 e.1) (with_past h)

-- whether a lost transaction was taken over; a clash is another clause
abbrev pub was_taken : List Note → TxId → Cause → Bool
was_taken past txn (Clash other) = true
was_taken past txn Lost = list_any (takes txn) past

-- the same of a decision
abbrev pub lost_after_by : List Note → TxId → Decision → Bool
lost_after_by past txn Commit = true
lost_after_by past txn (Abort shard cause) = was_taken past txn cause

-- the same of a note
abbrev pub lost_after : List Note → Note → Bool
lost_after past (Begin txn payload) = true
lost_after past (Take txn) = true
lost_after past (ReadValue name version value) = true
lost_after past (Decide txn decision) = lost_after_by past txn decision

-- Lost cause: an abort of a lost transaction stands after a take-over of it.
abbrev pub names_losses : List Note → Bool
names_losses h = list_all (λ e. lost_after e.0 e.1) (with_past h)

-- A history is correct, by the tests of its certifier and the number of its shards.
pub record IsCorrect (tests : Tests) (n : ℕ) (h : List Note) : Type 0 where
  pub agreement : agrees h ≡ true
  pub legality : is_legal tests h ≡ true
  pub real_time : keeps_time h ≡ true
  pub clash_cause : names_clashes tests n h ≡ true
  pub lost_cause : names_losses h ≡ true
