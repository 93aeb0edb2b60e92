-- Each decision stands after its transaction's beginning.
use Rattle.std.proofs.Common.{◌≡◌, List, ◌∷◌, ◌++◌, is_some, true, ap, ℕ}
use Rattle.tcs_terms.specs.declared.ids.TxId.{TxId}
use Rattle.tcs_terms.specs.declared.inputs.Note.{Note}
use Rattle.tcs_terms.specs.declared.inputs.Note.TheVariants.{Decide}
use Rattle.tcs_terms.specs.declared.votes.Decision.{Decision}
use Rattle.tcs_laws.specs.Certification.{Tests}
use Rattle.protocol.specs.History.{has_begun}
use Rattle.protocol_laws.proofs.HistoryKept.{HistoryHolds}

-- whatever is decided in a history has begun before
pub record BegunFirst (history : List Note) : Type 0 where
  pub each : (before : List Note) (txn : TxId) (decision : Decision) (after : List Note) → history ≡ before ++ (Decide txn decision ∷ after) → has_begun before txn ≡ true

-- so it is where such facts stand behind every decision
pub begun_first : (tests : Tests) (n : ℕ) (h : List Note) → HistoryHolds tests n h → BegunFirst h
begun_first tests n h holds = record { each = λ before txn decision after e. ap is_some (holds.each before after txn decision e).begun }
