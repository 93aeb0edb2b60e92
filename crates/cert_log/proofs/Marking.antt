-- Marks: the row of a slot is changed and no other, and the rows stay those of a log.
use Rattle.std.proofs.Common.{◌≡◌, ℕ, ◌<◌, zero, suc, true, false, cond, List, [], ◌∷◌, ◌⊎◌, length, get_or, set, map, Some, refl, sym, ap, ◌∙◌, subst, inl, inr, arith}
use Rattle.std.specs.Prelude.{◌==◌, slice_index}
use Rattle.std.specs.List.{list_all, list_any}
use Rattle.std.proofs.lemmas.Bool.{cond-true, cond-false, cond_both, or_parts, eq-eqb, ne_eqb, cases_Bool}
use Rattle.std.proofs.lemmas.List.{get_or-map, set-get_or}
use Rattle.std.proofs.lemmas.List.Folds.{list_all-map}
use Rattle.tcs_terms.specs.declared.ids.TxId.{TxId}
use Rattle.tcs_terms.specs.declared.logs.Row.{Row}
use Rattle.tcs_terms.specs.declared.logs.Mark.{Mark}
use Rattle.tcs_terms.specs.declared.logs.Mark.TheVariants.{Undecided, Committed, Aborted}
use Rattle.tcs_terms.specs.Order.{ascends}
use Rattle.tcs_terms.specs.Logs.{same_txn, txns_differ, AreRows}
use Rattle.tcs_terms.specs.Messages.{is_slot}
use Rattle.tcs_laws.specs.Rows as laws
use Rattle.protocol.specs.Log.{row_of, first_mark, set_mark, marked}
use Rattle.cert_log.specs.Places.{slots_of, txns_of}
use Rattle.cert_log.specs.Standing.{slot_of, IsIndexOf}
use Rattle.cert_log.proofs.Ascending.{is_above, tail_ascends, others_above, rises}
use Rattle.cert_log.proofs.Putting.{free_between}

-- the rows with the one of a slot changed
abbrev pub changed : (Row → Row) → ℕ → List Row → List Row
changed f slot rows = map (λ r. cond (r.entry.slot == slot) (f r) r) rows

pub changed_none : (f : Row → Row) (slot : ℕ) (rows : List Row) → list_any (λ r. r.entry.slot == slot) rows ≡ false → changed f slot rows ≡ rows
changed_none f slot [] none = refl
changed_none f slot (r ∷ rows) none =
    let parts = or_parts (r.entry.slot == slot) (list_any (λ r. r.entry.slot == slot) rows) none in
    ap (λ (x : Row). x ∷ changed f slot rows) (cond-false (r.entry.slot == slot) (f r) r parts.0)
    ∙ ap (λ xs. r ∷ xs) (changed_none f slot rows parts.1)

none_above : (slot : ℕ) (rows : List Row) → list_all (is_above slot) rows ≡ true → list_any (λ r. r.entry.slot == slot) rows ≡ false
none_above slot rows above = free_between [] rows slot refl above

-- the row that stands at an index is the one that is changed
pub changed_at : (f : Row → Row) (slot : ℕ) (rows : List Row) (at : ℕ) (d : Row) → ascends (slots_of rows) ≡ true → at < length rows
    → (get_or rows at d).entry.slot ≡ slot → changed f slot rows ≡ set rows at (f (get_or rows at d))
changed_at f slot [] at d up within here = absurd (omega arith)
changed_at f slot (r ∷ rows) zero d up within here =
    let above = subst (λ s. list_all (is_above s) rows ≡ true) here (others_above r rows up) in
    ap (λ (x : Row). x ∷ changed f slot rows) (cond-true (r.entry.slot == slot) (f r) r (eq-eqb r.entry.slot slot here))
    ∙ ap (λ xs. f r ∷ xs) (changed_none f slot rows (none_above slot rows above))
changed_at f slot (r ∷ rows) (suc at) d up within here =
    let lower = rises (r ∷ rows) 0 (suc at) d up (omega arith) within in
    ap (λ (x : Row). x ∷ changed f slot rows) (cond-false (r.entry.slot == slot) (f r) r (ne_eqb r.entry.slot slot (λ e. omega arith)))
    ∙ ap (λ xs. r ∷ xs) (changed_at f slot rows at d (tail_ascends r rows up) (omega arith) here)

-- ---- the row that a mark is for

mark_stays : (mark : Mark) (r : Row) → (r.mark ≡ Undecided → ⊥) → set_mark mark r ≡ r
mark_stays mark r decided = go r.mark refl where
  go : (m : Mark) → r.mark ≡ m → set_mark mark r ≡ r
  go Undecided e = absurd (decided e)
  go Committed e = rw e
  go Aborted e = rw e

at_slot : (rows : List Row) (at : ℕ) (r : Row) → at < length rows → r ≡ get_or rows at r → slice_index (slots_of rows) at ≡ r.entry.slot
at_slot rows at r within is = get_or-map (λ (x : Row). x.entry.slot) rows at r 0 within ∙ ap (λ (x : Row). x.entry.slot) (sym is)

-- an undecided row gets the mark
pub marked_here : (mark : Mark) (rows : List Row) (at : ℕ) (r : Row) → ascends (slots_of rows) ≡ true → at < length rows → r ≡ get_or rows at r
    → r.mark ≡ Undecided → set rows at (record { entry = r.entry; mark = mark }) ≡ marked rows (slice_index (slots_of rows) at) mark
marked_here mark rows at r up within is undecided =
    ap (λ m. set rows at (record { entry = r.entry; mark = first_mark m mark })) (sym undecided)
    ∙ ap (λ x. set rows at (set_mark mark x)) is
    ∙ sym (changed_at (set_mark mark) (slice_index (slots_of rows) at) rows at r up within (sym (at_slot rows at r within is ∙ ap (λ (x : Row). x.entry.slot) is)))

-- and a guard that is told of it stands for the rows with the mark
pub told_here : (mark : Mark) (rows : List Row) (at : ℕ) (r : Row) → ascends (slots_of rows) ≡ true → at < length rows → r ≡ get_or rows at r
    → r.mark ≡ Undecided → laws.marked rows r.entry.slot mark ≡ set rows at (record { entry = r.entry; mark = mark })
told_here mark rows at r up within is undecided =
    changed_at (laws.set_mark mark) r.entry.slot rows at r up within (ap (λ (x : Row). x.entry.slot) (sym is))
    ∙ ap (λ x. set rows at (laws.set_mark mark x)) (sym is)
    ∙ ap (λ m. set rows at (record { entry = r.entry; mark = laws.first_mark m mark })) undecided

-- a mark that says an outcome is not open
pub has_mark : (mark : Mark) → (mark ≡ Committed) ⊎ (mark ≡ Aborted) → mark ≡ Undecided → ⊥
has_mark mark (inl committed) open_still = cc
has_mark mark (inr aborted) open_still = cc

-- a row with a mark keeps it
pub marked_before : (mark : Mark) (rows : List Row) (at : ℕ) (r : Row) → ascends (slots_of rows) ≡ true → at < length rows → r ≡ get_or rows at r
    → (r.mark ≡ Undecided → ⊥) → rows ≡ marked rows (slice_index (slots_of rows) at) mark
marked_before mark rows at r up within is decided =
    sym (set-get_or rows at r) ∙ ap (λ x. set rows at x) (sym is ∙ sym (mark_stays mark r decided) ∙ ap (λ x. set_mark mark x) is)
    ∙ sym (changed_at (set_mark mark) (slice_index (slots_of rows) at) rows at r up within (sym (at_slot rows at r within is ∙ ap (λ (x : Row). x.entry.slot) is)))

-- ---- what a mark leaves as it is

module _ (slot : ℕ) (mark : Mark) where
  abbrev with_mark : Row → Row
  with_mark r = cond (r.entry.slot == slot) (set_mark mark r) r

  entry_stays : (r : Row) → (with_mark r).entry ≡ r.entry
  entry_stays r = cond_both (r.entry.slot == slot) (set_mark mark r) r (λ x. x.entry ≡ r.entry) (λ _. refl) (λ _. refl)

  slots_stay : (rows : List Row) → slots_of (marked rows slot mark) ≡ slots_of rows
  slots_stay [] = refl
  slots_stay (r ∷ rows) = ap (λ e. e.slot ∷ slots_of (marked rows slot mark)) (entry_stays r) ∙ ap (λ ss. r.entry.slot ∷ ss) (slots_stay rows)

  txns_stay : (rows : List Row) → txns_of (marked rows slot mark) ≡ txns_of rows
  txns_stay [] = refl
  txns_stay (r ∷ rows) = ap (λ e. e.txn ∷ txns_of (marked rows slot mark)) (entry_stays r) ∙ ap (λ ts. r.entry.txn ∷ ts) (txns_stay rows)

  found_stays : (txn : TxId) (rows : List Row) → slot_of (row_of (marked rows slot mark) txn) ≡ slot_of (row_of rows txn)
  found_stays txn [] = refl
  found_stays txn (r ∷ rows) =
      let same : same_txn (with_mark r).entry.txn txn ≡ same_txn r.entry.txn txn = ap (λ e. same_txn e.txn txn) (entry_stays r) in
      elim (cases_Bool (same_txn r.entry.txn txn)) [
        | inl here ↦
            ap slot_of (cond-true (same_txn (with_mark r).entry.txn txn) (Some (with_mark r)) (row_of (marked rows slot mark) txn) (same ∙ here))
            ∙ ap (λ e. Some e.slot) (entry_stays r)
            ∙ sym (ap slot_of (cond-true (same_txn r.entry.txn txn) (Some r) (row_of rows txn) here))
        | inr past ↦
            ap slot_of (cond-false (same_txn (with_mark r).entry.txn txn) (Some (with_mark r)) (row_of (marked rows slot mark) txn) (same ∙ past))
            ∙ found_stays txn rows
            ∙ sym (ap slot_of (cond-false (same_txn r.entry.txn txn) (Some r) (row_of rows txn) past))
      ]

  pub rows_marked : (rows : List Row) → AreRows rows → AreRows (marked rows slot mark)
  rows_marked rows are = record {
    slots_ascend = ap ascends (slots_stay rows) ∙ are.slots_ascend;
    slots = sym (list_all-map is_slot (λ (r : Row). r.entry.slot) (marked rows slot mark)) ∙ ap (list_all is_slot) (slots_stay rows)
        ∙ list_all-map is_slot (λ (r : Row). r.entry.slot) rows ∙ are.slots;
    txns_differ = ap txns_differ (txns_stay rows) ∙ are.txns_differ;
  }

  pub index_marked : (index : List (TxId × ℕ)) (rows : List Row) → IsIndexOf index rows → IsIndexOf index (marked rows slot mark)
  index_marked index rows is = record { finds = λ txn. is.finds txn ∙ sym (found_stays txn rows) }
