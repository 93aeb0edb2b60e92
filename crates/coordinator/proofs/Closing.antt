-- What becomes of a case that went on, by whether it is complete.
use Rattle.std.proofs.Common.{◌≡◌, Bool, true, false, List, ◌++◌, refl, sym, append-nil}
use Rattle.tcs_terms.specs.declared.ids.TxId.{TxId}
use Rattle.tcs_terms.specs.declared.inputs.Handled.TheVariants.{Acted}
use Rattle.tcs_terms.specs.declared.messages.Outgoing.{Outgoing}
use Rattle.protocol.specs.Choices.{when}
use Rattle.protocol.specs.Records.{Case, Coordinator}
use Rattle.protocol.specs.Cases.{is_complete}
use Rattle.protocol.specs.Coordination.{with_case, without_case, check_decision}
use Rattle.coordinator.specs.Acknowledged.{told, noted}

pub record Checked (c : Coordinator) (txn : TxId) (case : Case) (before : List Outgoing) : Type 0 where
  pub answer : (check_decision c txn case before).answer ≡ Acted
  pub closed : is_complete c.views case ≡ true → (check_decision c txn case before).kept ≡ without_case c txn
  pub kept_open : is_complete c.views case ≡ false → (check_decision c txn case before).kept ≡ with_case c txn case
  pub sends : (check_decision c txn case before).sends ≡ before ++ told c.views txn case
  pub notes : (check_decision c txn case before).notes ≡ noted c.views txn case

pub checked : (c : Coordinator) (txn : TxId) (case : Case) (sends : List Outgoing) → Checked c txn case sends
unfolding check_decision when told noted
checked c txn case sends = go (is_complete c.views case) refl where
  go : (b : Bool) → is_complete c.views case ≡ b → Checked c txn case sends
  go true e = record { answer = rw e refl; closed = λ _. rw e refl; kept_open = λ h. absurd cc; sends = rw e refl; notes = rw e refl }
  go false e = record { answer = rw e refl; closed = λ h. absurd cc; kept_open = λ _. rw e refl; sends = rw e (sym (append-nil sends)); notes = rw e refl }
