-- The index of a log with one row more, and what a list of rows has at each place.
use Rattle.std.proofs.Common.{◌≡◌, ℕ, ◌+◌, ◌<◌, zero, suc, Bool, true, false, not, cond, List, [], ◌∷◌, ◌++◌, length, get_or, take, Some, None, Option, refl, sym, ap, ◌∙◌, subst, arith}
use Rattle.std.specs.Prelude.{◌==◌, nat_lt, is_some}
use Rattle.std.specs.List.{list_all, list_any}
use Rattle.std.specs.Map.{lookup}
use Rattle.std.proofs.lemmas.Bool.{and_parts, or_parts, or_from, lt-ltb, not-true, not_from_false}
use Rattle.std.proofs.lemmas.List.{append-nil, take_more, get_or_default}
use Rattle.tcs_terms.specs.declared.ids.TxId.{TxId}
use Rattle.tcs_terms.specs.declared.logs.Row.{Row}
use Rattle.tcs_terms.specs.Order.{ascends}
use Rattle.tcs_terms.specs.Logs.{same_txn, txns_differ, AreRows}
use Rattle.tcs_terms.specs.Messages.{is_slot}
use Rattle.tcs_terms.specs.Preparations.{Preparation}
use Rattle.tcs_laws.specs.Rows.{is_free, put_row}
use Rattle.tcs_laws.proofs.ListLemmas.{find_some}
use Rattle.protocol.specs.Log.{row_of, row_at, last_slot, undecided, put_entry}
use Rattle.cert_log.specs.Places.{slots_of, txns_of}
use Rattle.cert_log.specs.Standing.{slot_of, IsIndexOf}
use Rattle.cert_log.proofs.Ascending.{is_below, below_next, all_at, all_taken, none_found, rises, row_at-found}
use Rattle.cert_log.proofs.Putting.{Between, put_between, free_between, find_between}
use Rattle.cert_log.proofs.SameTxn.{same_txn-eq}
use Rattle.tcs_terms.proofs.RowLaws.{same_swap}

-- ---- transactions that no row has

rows_of_txn : (txn : TxId) (rows : List Row) → list_any (same_txn txn) (txns_of rows) ≡ list_any (λ r. same_txn r.entry.txn txn) rows
rows_of_txn txn [] = refl
rows_of_txn txn (r ∷ rows) = rw (same_swap txn r.entry.txn, rows_of_txn txn rows) refl

pub new_txn : (txn : TxId) (rows : List Row) → is_some (row_of rows txn) ≡ false → list_any (same_txn txn) (txns_of rows) ≡ false
new_txn txn rows new = rows_of_txn txn rows ∙ sym (find_some (λ r. same_txn r.entry.txn txn) rows) ∙ new

not_found : (txn : TxId) (rows : List Row) → list_any (same_txn txn) (txns_of rows) ≡ false → row_of rows txn ≡ None
not_found txn rows new = none_found (λ r. same_txn r.entry.txn txn) rows (sym (rows_of_txn txn rows) ∙ new)

-- ---- an index

-- the order in which an index keeps its entries does not matter
pub index_same : (index next : List (TxId × ℕ)) (rows : List Row) → IsIndexOf index rows → ((q : TxId) → lookup (same_txn q) next ≡ lookup (same_txn q) index)
    → IsIndexOf next rows
index_same index next rows is same = record { finds = λ txn. same txn ∙ is.finds txn }

-- an index with one transaction more
pub index_between : (index next : List (TxId × ℕ)) (lower : List Row) (row : Row) (upper : List Row) → list_any (same_txn row.entry.txn) (txns_of (lower ++ upper)) ≡ false
    → IsIndexOf index (lower ++ upper) → ((q : TxId) → lookup (same_txn q) next ≡ cond (same_txn row.entry.txn q) (Some row.entry.slot) (lookup (same_txn q) index))
    → IsIndexOf next (lower ++ row ∷ upper)
index_between index next lower row upper new is puts = record {
  finds = λ txn.
      let p : Row → Bool = λ r. same_txn r.entry.txn txn in
      let found : row_of (lower ++ row ∷ upper) txn ≡ cond (p row) (Some row) (row_of (lower ++ upper) txn) =
      find_between p lower row upper (λ same. subst (λ t. row_of (lower ++ upper) t ≡ None) (same_txn-eq row.entry.txn txn same) (not_found row.entry.txn (lower ++ upper) new)) in
      puts txn ∙ ap (λ o. cond (p row) (Some row.entry.slot) o) (is.finds txn)
      ∙ moved (p row) (row_of (lower ++ upper) txn) ∙ sym (ap slot_of found);
} where
  moved : (b : Bool) (o : Option Row) → cond b (Some row.entry.slot) (slot_of o) ≡ slot_of (cond b (Some row) o)
  moved true o = refl
  moved false o = refl

-- the slot of a transaction's row gives the row
pub row_at-indexed : (rows : List Row) (txn : TxId) (slot : ℕ) → ascends (slots_of rows) ≡ true → Some slot ≡ slot_of (row_of rows txn) → row_at rows slot ≡ row_of rows txn
row_at-indexed rows txn slot up is = go (row_of rows txn) refl is where
  go : (o : Option Row) → row_of rows txn ≡ o → Some slot ≡ slot_of o → row_at rows slot ≡ row_of rows txn
  go None found e = absurd cc
  go (Some r) found e =
      let same : r.entry.slot ≡ slot = cc in
      subst (λ s. row_at rows s ≡ Some r) same (row_at-found (λ (x : Row). same_txn x.entry.txn txn) rows r up found) ∙ sym found

-- ---- the rows up to a place, and the next

not_at : (p : TxId → Bool) (rows : List Row) (i : ℕ) (d : Row) → list_any p (txns_of rows) ≡ false → i < length rows → p (get_or rows i d).entry.txn ≡ false
not_at p [] i d none within = absurd (omega arith)
not_at p (r ∷ rows) zero d none within = (or_parts (p r.entry.txn) (list_any p (txns_of rows)) none).0
not_at p (r ∷ rows) (suc i) d none within = not_at p rows i d (or_parts (p r.entry.txn) (list_any p (txns_of rows)) none).1 (omega arith)

new_at : (rows : List Row) (i : ℕ) (d : Row) → txns_differ (txns_of rows) ≡ true → i < length rows
    → list_any (same_txn (get_or rows i d).entry.txn) (txns_of (take i rows)) ≡ false
new_at [] i d differ within = absurd (omega arith)
new_at (r ∷ rows) zero d differ within = refl
new_at (r ∷ rows) (suc i) d differ within =
    let parts = and_parts (not (list_any (same_txn r.entry.txn) (txns_of rows))) (txns_differ (txns_of rows)) differ in
    let apart = not_at (same_txn r.entry.txn) rows i d (not-true _ parts.0) (omega arith) in
    or_from (same_txn (get_or rows i d).entry.txn r.entry.txn) (list_any (same_txn (get_or rows i d).entry.txn) (txns_of (take i rows)))
    (same_swap (get_or rows i d).entry.txn r.entry.txn ∙ apart) (new_at rows i d parts.1 (omega arith))

-- a row may stand after those before it
pub next_between : (rows : List Row) (i : ℕ) (row : Row) → AreRows rows → i < length rows → row ≡ get_or rows i row → Between (take i rows) row []
next_between rows i row are within is = record {
  below = all_taken (is_below row.entry.slot) rows i (λ k d before inside.
      subst (λ (x : Row). nat_lt (get_or rows k d).entry.slot x.entry.slot ≡ true) (sym (is ∙ get_or_default rows i row d within))
      (lt-ltb (get_or rows k d).entry.slot (get_or rows i d).entry.slot (rises rows k i d are.slots_ascend before within)));
  above = refl;
  slot = subst (λ (x : Row). is_slot x.entry.slot ≡ true) (sym is) (all_at (λ r. is_slot r.entry.slot) rows i row are.slots within);
  new = subst (λ (xs : List Row). list_any (same_txn row.entry.txn) (txns_of xs) ≡ false) (sym (append-nil (take i rows)))
      (subst (λ (x : Row). list_any (same_txn x.entry.txn) (txns_of (take i rows)) ≡ false) (sym is) (new_at rows i row are.txns_differ within));
}

take_next : (rows : List Row) (i : ℕ) (row : Row) → i < length rows → row ≡ get_or rows i row → take i rows ++ row ∷ [] ≡ take (i + 1) rows
take_next rows i row within is = ap (λ (x : Row). take i rows ++ x ∷ []) is ∙ sym (take_more rows i row within)

-- a row that is above all is put last
pub put_last : (rows : List Row) (row : Row) → list_all (is_below row.entry.slot) rows ≡ true → put_row rows row ≡ rows ++ row ∷ []
put_last rows row below =
    subst (λ (xs : List Row). put_row xs row ≡ rows ++ row ∷ []) (append-nil rows) (put_between rows row [] below refl)

pub put_next : (rows : List Row) (i : ℕ) (row : Row) → AreRows rows → i < length rows → row ≡ get_or rows i row → put_row (take i rows) row ≡ take (i + 1) rows
put_next rows i row are within is = put_last (take i rows) row (next_between rows i row are within is).below ∙ take_next rows i row within is

pub index_next : (index next : List (TxId × ℕ)) (rows : List Row) (i : ℕ) (row : Row) → AreRows rows → i < length rows → row ≡ get_or rows i row
    → IsIndexOf index (take i rows) → ((q : TxId) → lookup (same_txn q) next ≡ cond (same_txn row.entry.txn q) (Some row.entry.slot) (lookup (same_txn q) index))
    → IsIndexOf next (take (i + 1) rows)
index_next index next rows i row are within is before puts =
    subst (λ (xs : List Row). IsIndexOf next xs) (take_next rows i row within is)
    (index_between index next (take i rows) row [] (next_between rows i row are within is).new
    (subst (λ (xs : List Row). IsIndexOf index xs) (sym (append-nil (take i rows))) before) puts)

-- no row has the slot of one that is above all
pub free_last : (rows : List Row) (slot : ℕ) → list_all (is_below slot) rows ≡ true → is_free rows slot ≡ true
free_last rows slot below =
    not_from_false _ (subst (λ (xs : List Row). list_any (λ r. r.entry.slot == slot) xs ≡ false) (append-nil rows) (free_between rows [] slot below refl))

pub next_is_free : (rows : List Row) (i : ℕ) (row : Row) → AreRows rows → i < length rows → row ≡ get_or rows i row → is_free (take i rows) row.entry.slot ≡ true
next_is_free rows i row are within is = free_last (take i rows) row.entry.slot (next_between rows i row are within is).below

-- the slot after the last one is free
pub next_free : (rows : List Row) → ascends (slots_of rows) ≡ true → is_some (row_at rows (last_slot rows + 1)) ≡ false
next_free rows up =
    find_some (λ r. r.entry.slot == last_slot rows + 1) rows ∙ not-true _ (free_last rows (last_slot rows + 1) (below_next rows up))

-- an entry of the next slot is put last
pub put_new : (rows : List Row) (entry : Preparation) → ascends (slots_of rows) ≡ true → entry.slot ≡ last_slot rows + 1
    → put_entry rows entry ≡ rows ++ undecided entry ∷ []
put_new rows entry up slot_is = put_last rows (undecided entry) (subst (λ s. list_all (is_below s) rows ≡ true) (sym slot_is) (below_next rows up))
