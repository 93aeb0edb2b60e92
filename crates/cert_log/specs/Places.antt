-- Where the row of a slot stands among rows whose slots ascend, or would stand.
use Rattle.std.specs.Prelude.{◌≡◌, ℕ, ◌<◌, ◌≤◌, nat_lt, IsTrue, List, length, map, take, drop, slice_index}
use Rattle.std.specs.List.{list_all}
use Rattle.tcs_terms.specs.declared.logs.Row.{Row}
use Rattle.tcs_terms.specs.declared.ids.TxId.{TxId}

-- the slots of rows
abbrev pub slots_of : List Row → List ℕ
slots_of rows = map (λ r. r.entry.slot) rows

-- the transactions of rows
abbrev pub txns_of : List Row → List TxId
txns_of rows = map (λ r. r.entry.txn) rows

-- the row at an index has the slot
pub record StandsAt (rows : List Row) (slot at : ℕ) : Type 0 where
  pub within : at < length rows
  pub here : slice_index (slots_of rows) at ≡ slot

-- the rows before an index have lower slots, and those from it on greater ones
pub record SplitsAt (rows : List Row) (slot at : ℕ) : Type 0 where
  pub within : at ≤ length rows
  pub below : IsTrue (list_all (λ r. nat_lt r.entry.slot slot) (take at rows))
  pub above : IsTrue (list_all (λ r. nat_lt slot r.entry.slot) (drop at rows))
