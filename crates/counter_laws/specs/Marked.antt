-- A node that has each committed addition to a counter marked.
use Rattle.std.specs.Prelude.{◌≡◌, ℕ, true, List, Some, is_some}
use Rattle.tcs_terms.specs.declared.ids.TxId.{TxId}
use Rattle.tcs_terms.specs.declared.inputs.Note.{Note}
use Rattle.tcs_terms.specs.declared.logs.Mark.TheVariants.{Committed}
use Rattle.tcs_terms.specs.declared.logs.Row.{Row}
use Rattle.tcs_terms.specs.Payloads.{Accesses}
use Rattle.protocol.specs.History.{order_of, payload_in}
use Rattle.protocol.specs.Invariant.Time.{StandsIn}
use Rattle.counters.specs.Amounts.{added_by}

-- each transaction of the order that adds to the counter has a row among these, and it is marked committed
abbrev pub HasEach : List Note → List Row → List ℕ → Type 0
HasEach h rows name =
    (txn : TxId) (p : Accesses) → StandsIn txn (order_of h) → payload_in h txn ≡ Some p → is_some (added_by p.writes name) ≡ true
    → (r : Row) × StandsIn r rows × (r.entry.txn ≡ txn) × (r.mark ≡ Committed)
