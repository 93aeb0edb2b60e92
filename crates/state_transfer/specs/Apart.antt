-- Where rows may stand beside the pieces that are kept, told by their ends and their transactions alone.
use Rattle.std.specs.Prelude.{ℕ, ◌-◌, Bool, true, not, nat_lt, if◌then◌else◌, List, length, Option, Some, None}
use Rattle.std.specs.List.{list_all, list_any, slice_get}
use Rattle.tcs_terms.specs.declared.ids.TxId.{TxId}
use Rattle.tcs_terms.specs.declared.logs.Row.{Row}
use Rattle.tcs_terms.specs.Logs.{same_txn}
use Rattle.protocol.specs.Records.{Piece}

-- whether the first row's slot is below the second's, where there are both
abbrev pub rises : Option Row → Option Row → Bool
rises None upper = true
rises (Some lower) None = true
rises (Some lower) (Some upper) = nat_lt lower.entry.slot upper.entry.slot

-- whether rows whose slots ascend end below where others begin
abbrev pub ends_below : List Row → List Row → Bool
ends_below lower upper = rises (slice_get lower (length lower - 1)) (slice_get upper 0)

-- whether rows of the piece of a number stand on the right side of another piece
abbrev pub stands_apart : ℕ → List Row → Piece → Bool
stands_apart number rows p = if nat_lt p.number number then ends_below p.rows rows else ends_below rows p.rows

-- whether no row has one of these transactions
abbrev pub are_new : List TxId → List Row → Bool
are_new txns rows = list_all (λ r. not (list_any (same_txn r.entry.txn) txns)) rows
