-- A log stays one when a row is put or marked.
use Rattle.std.proofs.Common.{◌≡◌, ℕ, true, false, cond, List, ◌++◌, take, drop, Some, sym, subst}
use Rattle.std.specs.Prelude.{is_some}
use Rattle.std.specs.List.{insert, list_any}
use Rattle.std.specs.Map.{lookup}
use Rattle.std.proofs.lemmas.Bool.{not_from_false}
use Rattle.std.proofs.lemmas.List.{take-append-drop}
use Rattle.tcs_terms.specs.declared.ids.TxId.{TxId}
use Rattle.tcs_terms.specs.declared.logs.Row.{Row}
use Rattle.tcs_terms.specs.declared.logs.Mark.{Mark}
use Rattle.tcs_terms.specs.Logs.{same_txn, AreRows}
use Rattle.tcs_terms.specs.Messages.{is_slot}
use Rattle.tcs_laws.specs.Rows.{is_free, put_row}
use Rattle.protocol.specs.Log.{row_of, marked}
use Rattle.cert_log.specs.Places.{SplitsAt, txns_of}
use Rattle.cert_log.specs.Standing.{IsIndexOf, IsLog}
use Rattle.cert_log.proofs.Putting.{Between, put_between, rows_between}
use Rattle.cert_log.proofs.Indexing.{new_txn, index_same, index_between}
use Rattle.cert_log.proofs.Marking.{rows_marked, index_marked}
use Rattle.cert_log.proofs.Splitting.{split_is_free}

-- a row that is put where the rows are split is in its place
pub inserted : (rows : List Row) (row : Row) (at : ℕ) → SplitsAt rows row.entry.slot at → put_row rows row ≡ insert rows at row
inserted rows row at split =
    subst (λ (xs : List Row). put_row xs row ≡ insert rows at row) (take-append-drop at rows)
    (put_between (take at rows) row (drop at rows) split.below split.above)

-- with a row put in its place, one transaction more in the index, and the guard told, a log is a log
pub log_put : (Stands Stands' : List Row → Type 0) (index next : List (TxId × ℕ)) (rows : List Row) (row : Row) (at : ℕ)
    → IsLog Stands index rows → SplitsAt rows row.entry.slot at → is_slot row.entry.slot ≡ true → is_some (row_of rows row.entry.txn) ≡ false
    → ((q : TxId) → lookup (same_txn q) next ≡ cond (same_txn row.entry.txn q) (Some row.entry.slot) (lookup (same_txn q) index))
    → ((before : List Row) → Stands before → is_free before row.entry.slot ≡ true → Stands' (put_row before row))
    → IsLog Stands' next (insert rows at row)
log_put Stands Stands' index next rows row at log split slot new puts told =
    let lower : List Row = take at rows in
    let upper : List Row = drop at rows in
    let whole : rows ≡ lower ++ upper = sym (take-append-drop at rows) in
    let between : Between lower row upper = record {
      below = split.below;
      above = split.above;
      slot = slot;
      new = subst (λ (xs : List Row). list_any (same_txn row.entry.txn) (txns_of xs) ≡ false) whole (new_txn row.entry.txn rows new);
    } in
    record {
      are_rows = rows_between lower row upper between (subst AreRows whole log.are_rows);
      is_index = index_between index next lower row upper between.new (subst (IsIndexOf index) whole log.is_index) puts;
      stands = subst Stands' (inserted rows row at split) (told rows log.stands (not_from_false _ (split_is_free rows row.entry.slot at split)));
    }

-- a log stays one where its index keeps its entries in another order, and where its guard stands for what it stood for
pub log_same : (Stands Stands' : List Row → Type 0) (index next : List (TxId × ℕ)) (rows same : List Row) → IsLog Stands index rows → same ≡ rows
    → ((q : TxId) → lookup (same_txn q) next ≡ lookup (same_txn q) index) → ((before : List Row) → Stands before → Stands' before) → IsLog Stands' next same
log_same Stands Stands' index next rows same log is order kept =
    subst (λ (xs : List Row). IsLog Stands' next xs) (sym is) (record {
      are_rows = log.are_rows;
      is_index = index_same index next rows log.is_index order;
      stands = kept rows log.stands;
    })

-- where the rows are split, also as they are listed elsewhere, and by a slot that is the same
pub split_same : (rows same : List Row) (slot equal at : ℕ) → rows ≡ same → slot ≡ equal → SplitsAt rows slot at → SplitsAt same equal at
split_same rows same slot equal at is slot_is split = subst (λ s. SplitsAt same s at) slot_is (subst (λ (xs : List Row). SplitsAt xs slot at) is split)

-- a log stays one when a row is marked and its guard is told
pub log_marked : (Stands Stands' : List Row → Type 0) (index : List (TxId × ℕ)) (rows next : List Row) (slot : ℕ) (mark : Mark) → IsLog Stands index rows
    → next ≡ marked rows slot mark → Stands' next → IsLog Stands' index next
log_marked Stands Stands' index rows next slot mark log is told = record {
  are_rows = subst AreRows (sym is) (rows_marked slot mark rows log.are_rows);
  is_index = subst (IsIndexOf index) (sym is) (index_marked slot mark index rows log.is_index);
  stands = told;
}
