-- What a log keeps beside its rows.
use Rattle.std.specs.Prelude.{◌≡◌, ℕ, List, Option, Some, None}
use Rattle.std.specs.Map.{lookup}
use Rattle.tcs_terms.specs.declared.ids.TxId.{TxId}
use Rattle.tcs_terms.specs.declared.logs.Row.{Row}
use Rattle.tcs_terms.specs.Logs.{same_txn, AreRows}
use Rattle.protocol.specs.Log.{row_of}

-- the slot of a row
abbrev pub slot_of : Option Row → Option ℕ
slot_of None = None
slot_of (Some r) = Some r.entry.slot

-- an index has of each transaction the slot of its row
pub record IsIndexOf (index : List (TxId × ℕ)) (rows : List Row) : Type 0 where
  pub finds : (txn : TxId) → lookup (same_txn txn) index ≡ slot_of (row_of rows txn)

-- the rows are those of a log, the index is of them, and the guard stands for them
pub record IsLog (StandsFor : List Row → Type 0) (index : List (TxId × ℕ)) (rows : List Row) : Type 0 where
  pub are_rows : AreRows rows
  pub is_index : IsIndexOf index rows
  pub stands : StandsFor rows

-- a guard that may be kept stands for rows: it need not where there is none
abbrev pub StandsWhere : {G : Type 0} → (G → List Row → Type 0) → Option G → List Row → Type 0
StandsWhere stands None rows = Unit {0}
StandsWhere stands (Some guard) rows = stands guard rows
