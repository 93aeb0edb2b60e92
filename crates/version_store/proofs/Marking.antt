-- A row that is marked committed adds its writes, in whichever order the rows are marked.
use Rattle.std.proofs.Common.{◌≡◌, ℕ, ◌<◌, ◌≢◌, zero, suc, List, [], ◌∷◌, length, get_or, refl, sym, ap, ◌∙◌, subst, arith}
use Rattle.std.specs.Prelude.{Option, Some, None, Contains, find, fold}
use Rattle.std.proofs.lemmas.Bool.{eq-eqb, ne_eqb}
use Rattle.tcs_terms.specs.declared.logs.Row.{Row}
use Rattle.tcs_terms.specs.declared.logs.Mark.{Mark}
use Rattle.tcs_terms.specs.declared.logs.Mark.TheVariants.{Undecided, Committed, Aborted}
use Rattle.tcs_terms.specs.declared.payloads.WritePart.{WritePart}
use Rattle.tcs_terms.specs.Payloads.{Accesses, same_name}
use Rattle.protocol.specs.Log.{marked, set_mark}
use Rattle.version_store.specs.declared.kept.Kept.{Kept}
use Rattle.version_store.specs.Keeping.{better, found_write, part_write, marked_write, write_of, best_of, SlotsAscend}
use Rattle.version_store.proofs.Precedence.{swapped}
use Rattle.version_store.proofs.Slots.{AllAbove, rest_above, rest_ascends, above_at}

module _ (name : List ℕ) where
  -- what is kept of the object after the writes of one more row
  abbrev taken : Option Kept → Row → Option Kept
  taken best r = better best (write_of r name)

  swap_found : (best : Option Kept) (w : Kept) (slot version : ℕ) → w.slot ≢ slot → (found : Option WritePart)
      → better (better best (Some w)) (found_write slot version found) ≡ better (better best (found_write slot version found)) (Some w)
  swap_found best w slot version apart None = refl
  swap_found best w slot version apart (Some x) = swapped best w (record { version = version; slot = slot; value = x.value }) apart

  swap_row : (best : Option Kept) (w : Kept) (slot : ℕ) → w.slot ≢ slot → (mark : Mark) (part : Option Accesses)
      → better (better best (Some w)) (marked_write name slot mark part) ≡ better (better best (marked_write name slot mark part)) (Some w)
  swap_row best w slot apart Undecided part = refl
  swap_row best w slot apart Aborted part = refl
  swap_row best w slot apart Committed None = refl
  swap_row best w slot apart Committed (Some p) = swap_found best w slot p.version apart (find (λ w. same_name w.name name) p.writes)

  -- a write may be taken in after those of later rows
  late : (w : Kept) (rows : List Row) → AllAbove w.slot rows → (best : Option Kept)
      → fold taken (better best (Some w)) rows ≡ better (fold taken best rows) (Some w)
  late w [] above best = refl
  late w (r ∷ rs) above best =
      let apart : w.slot ≢ r.entry.slot = λ same. let less = above.0 in omega arith in
      ap (λ b. fold taken b rs) (swap_row best w r.entry.slot apart r.mark r.entry.payload) ∙ late w rs above.1 (taken best r)

  late_found : (slot version : ℕ) (found : Option WritePart) (rows : List Row) → AllAbove slot rows → (best : Option Kept)
      → fold taken (better best (found_write slot version found)) rows ≡ better (fold taken best rows) (found_write slot version found)
  late_found slot version None rows above best = refl
  late_found slot version (Some x) rows above best = late (record { version = version; slot = slot; value = x.value }) rows above best

  late_part : (slot : ℕ) (part : Option Accesses) (rows : List Row) → AllAbove slot rows → (best : Option Kept)
      → fold taken (better best (part_write name slot part)) rows ≡ better (fold taken best rows) (part_write name slot part)
  late_part slot None rows above best = refl
  late_part slot (Some p) rows above best = late_found slot p.version (find (λ w. same_name w.name name) p.writes) rows above best

-- rows above the slot stay as they are
unmarked : (slot : ℕ) (mark : Mark) (rows : List Row) → AllAbove slot rows → marked rows slot mark ≡ rows
unmarked slot mark [] above = refl
unmarked slot mark (r ∷ rs) above =
    let other = ne_eqb r.entry.slot slot (λ same. let less = above.0 in omega arith) in
    let rest = unmarked slot mark rs above.1 in
    rw (other, rest) refl

module _ (name : List ℕ) (row : Row) (undecided : row.mark ≡ Undecided) where
  abbrev added : Option Kept → Option Kept
  added best = better best (part_write name row.entry.slot row.entry.payload)

  marked_here : (rs : List Row) → AllAbove row.entry.slot rs → (best : Option Kept)
      → fold (taken name) best (marked (row ∷ rs) row.entry.slot Committed) ≡ added (fold (taken name) best (row ∷ rs))
  marked_here rs above best =
      let here = eq-eqb row.entry.slot row.entry.slot refl in
      let rest = unmarked row.entry.slot Committed rs above in
      let before : write_of row name ≡ None = rw undecided refl in
      let after : write_of (set_mark Committed row) name ≡ part_write name row.entry.slot row.entry.payload = rw undecided refl in
      rw (here, rest) (
      ap (λ o. fold (taken name) (better best o) rs) after
      ∙ late_part name row.entry.slot row.entry.payload rs above best
      ∙ ap (λ o. added (fold (taken name) (better best o) rs)) (sym before))

  marked_at : (rows : List Row) → SlotsAscend rows → (j : ℕ) → j < length rows → get_or rows j row ≡ row → (best : Option Kept)
      → fold (taken name) best (marked rows row.entry.slot Committed) ≡ added (fold (taken name) best rows)
  marked_at [] rise j within is best = absurd (omega arith)
  marked_at (r ∷ rs) rise zero within is best =
      subst (λ x. AllAbove x.entry.slot rs → fold (taken name) best (marked (x ∷ rs) row.entry.slot Committed) ≡ added (fold (taken name) best (x ∷ rs)))
      (sym is) (λ above. marked_here rs above best) (rest_above r rs rise)
  marked_at (r ∷ rs) rise (suc j) within is best =
      let above = above_at r.entry.slot rs (rest_above r rs rise) j row (omega arith) in
      let same = ap (λ x. x.entry.slot) is in
      let other = ne_eqb r.entry.slot row.entry.slot (λ e. omega arith) in
      rw other (marked_at rs (rest_ascends r rs rise) j (omega arith) is (taken name best r))

-- the writes of a row that is marked committed are added
pub best_of_marked : (rows : List Row) → SlotsAscend rows → (row : Row) → Contains rows row → row.mark ≡ Undecided → (name : List ℕ)
    → best_of (marked rows row.entry.slot Committed) name ≡ better (best_of rows name) (part_write name row.entry.slot row.entry.payload)
unfolding best_of
best_of_marked rows rise row there undecided name = marked_at name row undecided rows rise there.0 there.1 there.2 None
