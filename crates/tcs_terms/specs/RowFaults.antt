-- Which rows are refused as those of a log, and where.
use Rattle.std.specs.Prelude.{◌≡◌, ℕ, ◌+◌, Bool, ◌&&◌, not, nat_lt, nat_le, if◌then◌else◌, List, [], ◌∷◌, Option, Some, None}
use Rattle.std.specs.List.{list_any}
use Rattle.tcs_terms.specs.declared.limits.TheConstants.{MAX_SLOT}
use Rattle.tcs_terms.specs.declared.ids.TxId.{TxId}
use Rattle.tcs_terms.specs.declared.logs.Row.{Row}
use Rattle.tcs_terms.specs.declared.faults.RowsFault.{RowsFault}
use Rattle.tcs_terms.specs.declared.faults.RowsFault.TheVariants.{Bad, OutOfMemory}
use Rattle.tcs_terms.specs.Logs.{same_txn}

-- whether a row may follow rows up to this slot with these transactions
abbrev pub may_follow : ℕ → List TxId → Row → Bool
may_follow last before r = nat_lt last r.entry.slot && nat_le r.entry.slot MAX_SLOT && not (list_any (same_txn r.entry.txn) before)

-- the first of the rows, the first of them at this place, that may not follow those before it
abbrev pub rows_fault : ℕ → ℕ → List TxId → List Row → Option ℕ
rows_fault place last before [] = None
rows_fault place last before (r ∷ rs) =
    if may_follow last before r then rows_fault (place + 1) r.entry.slot (r.entry.txn ∷ before) rs else Some place

-- what a refusal of rows says
abbrev pub RowsRefused : List Row → RowsFault → Type 0
RowsRefused rows (Bad place) = rows_fault 0 0 [] rows ≡ Some place
RowsRefused rows OutOfMemory = Unit {0}
