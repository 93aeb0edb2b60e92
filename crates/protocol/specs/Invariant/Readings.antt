-- Readings: each tells what a committed transaction wrote, or that nothing was written yet.
use Rattle.std.specs.Prelude.{◌≡◌, ℕ, List, [], ◌∷◌, ◌++◌, Some, ◌⊎◌}
use Rattle.tcs_terms.specs.declared.ids.TxId.{TxId}
use Rattle.tcs_terms.specs.declared.inputs.Note.{Note}
use Rattle.tcs_terms.specs.declared.inputs.Note.TheVariants.{ReadValue, Decide}
use Rattle.tcs_terms.specs.declared.votes.Decision.TheVariants.{Commit}
use Rattle.tcs_terms.specs.Payloads.{Accesses}
use Rattle.protocol.specs.History.{payload_in}
use Rattle.protocol.specs.Invariant.Time.{Moment, StandsIn}

-- a transaction that was decided to commit before, and that writes this value to the object, at this version
pub record IsWrittenBefore (earlier : List Note) (name : List ℕ) (version : ℕ) (value : List ℕ) : Type 0 where
  pub txn : TxId
  pub payload : Accesses
  pub decided : StandsIn (Decide txn Commit) earlier
  pub begun : payload_in earlier txn ≡ Some payload
  pub at_version : payload.version ≡ version
  pub writes : StandsIn (record { name = name; value = value }) payload.writes

-- Each reading is at version 0 and empty, or of such a transaction.
pub record ReadingsHold (t : Moment) : Type 0 where
  pub each : (earlier later : List Note) (name : List ℕ) (version : ℕ) (value : List ℕ) → t.now.history ≡ earlier ++ (ReadValue name version value ∷ later)
      → ((version ≡ 0) × (value ≡ [])) ⊎ IsWrittenBefore earlier name version value
