-- What the run of such a schedule comes to.
use Rattle.std.specs.Prelude.{◌≡◌, ℕ, List, [], length, map, find, Option, Some, None}
use Rattle.std.specs.List.{range_with_len}
use Rattle.tcs_terms.specs.declared.ids.TxId.{TxId}
use Rattle.tcs_terms.specs.declared.inputs.Event.{Event}
use Rattle.tcs_terms.specs.declared.inputs.Note.{Note}
use Rattle.tcs_terms.specs.Payloads.{same_name}
use Rattle.cert_serial.specs.Serial.{serial}
use Rattle.protocol.specs.History.{order_of, payloads_of}
use Rattle.protocol.specs.OneCopy.{Copied, copy_after}
use Rattle.protocol.specs.Run.{ran, run}
use Rattle.protocol.specs.Worked.Words.{txn, acted}
use Rattle.backup_machine.specs.declared.objects.Kept.{Kept}
use Rattle.restore_laws.specs.Schedules.{restored_setup, restored_events, payload_of}

-- the transactions of node 1, so many, from its first on
abbrev pub first_txns : ℕ → List TxId
first_txns count = map (txn 1) (range_with_len 1 count)

-- the history of the run
abbrev pub restored_history : List Kept → List Note
restored_history kept = (run serial restored_setup (restored_events kept)).history

-- an object as it was kept, and any other as it is before it is written
abbrev pub kept_copy : Option Kept → Copied
kept_copy None = record { version = 0; value = [] }
kept_copy (Some k) = record { version = k.version; value = k.value }

-- Each event acts. The transactions of the objects commit, one after the other; and after all of them the one copy of
-- the data has exactly the objects that were kept, with their versions and values.
pub record IsRestored (kept : List Kept) : Type 0 where
  pub acts : (ran serial restored_setup (restored_events kept)).results ≡ map (λ (e : Event). acted) (restored_events kept)
  pub order : order_of (restored_history kept) ≡ first_txns (length kept)
  pub payloads : payloads_of (restored_history kept) (order_of (restored_history kept)) ≡ map payload_of kept
  pub copy : (name : List ℕ)
      → copy_after (payloads_of (restored_history kept) (order_of (restored_history kept))) name ≡ kept_copy (find (λ (k : Kept). same_name k.name name) kept)
