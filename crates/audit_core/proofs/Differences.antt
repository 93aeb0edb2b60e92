-- The first difference of two orders, place by place.
use Rattle.std.proofs.Common.{◌≡◌, ℕ, ◌+◌, ◌<◌, ◌≤◌, suc, true, false, cond, List, length, get_or, drop, drop-cons, add-one}
use Rattle.std.specs.Prelude.{Some, None}
use Rattle.std.proofs.lemmas.List.{drop_all}
use Rattle.tcs_terms.specs.declared.ids.TxId.{TxId}
use Rattle.tcs_terms.specs.Logs.{same_txn}
use Rattle.audit_core.specs.Told.{first_difference}

-- at a place of both
at_place : (told order : List TxId) (place : ℕ) (d e : TxId) → place < length told → place < length order
    → first_difference (drop place told) (drop place order)
    ≡ cond (same_txn (get_or told place d) (get_or order place e)) (first_difference (drop (suc place) told) (drop (suc place) order))
    (Some (get_or told place d))
at_place told order place d e in_told in_order = rw (drop-cons told place d, drop-cons order place e)

pub same_there : (told order : List TxId) (place : ℕ) (d e : TxId) → place < length told → place < length order
    → same_txn (get_or told place d) (get_or order place e) ≡ true
    → first_difference (drop place told) (drop place order) ≡ first_difference (drop (place + 1) told) (drop (place + 1) order)
same_there told order place d e in_told in_order same = rw add-one (rw same at (at_place told order place d e in_told in_order))

pub other_there : (told order : List TxId) (place : ℕ) (d e : TxId) → place < length told → place < length order
    → same_txn (get_or told place d) (get_or order place e) ≡ false
    → first_difference (drop place told) (drop place order) ≡ Some (get_or told place d)
other_there told order place d e in_told in_order other = rw other at (at_place told order place d e in_told in_order)

-- at a place of one of them
pub left_over : (told order : List TxId) (place : ℕ) (d : TxId) → place < length told → length order ≤ place
    → first_difference (drop place told) (drop place order) ≡ Some (get_or told place d)
left_over told order place d in_told behind = rw (drop-cons told place d, drop_all place order behind)

pub lacking : (told order : List TxId) (place : ℕ) (d : TxId) → length told ≤ place → place < length order
    → first_difference (drop place told) (drop place order) ≡ Some (get_or order place d)
lacking told order place d behind in_order = rw (drop_all place told behind, drop-cons order place d)

-- behind both
pub none_left : (told order : List TxId) (place : ℕ) → length told ≤ place → length order ≤ place
    → first_difference (drop place told) (drop place order) ≡ None
none_left told order place told_ends order_ends = rw (drop_all place told told_ends, drop_all place order order_ends)
