-- A row above all others stands last, and a mark changes no slot.
use Rattle.std.proofs.Common.{◌≡◌, ℕ, ◌<◌, true, false, List, [], ◌∷◌, ◌++◌, refl, ap, ◌∙◌, arith}
use Rattle.std.specs.Prelude.{◌==◌, nat_lt, filter}
use Rattle.std.specs.List.{list_any}
use Rattle.std.proofs.lemmas.Bool.{cond_both, cond-true, cond-false, and_parts, and_from, ltb-true, lt-ltb, le-ltb, ne_eqb, not_from_false}
use Rattle.tcs_terms.specs.declared.logs.Row.{Row}
use Rattle.tcs_terms.specs.declared.logs.Mark.{Mark}
use Rattle.tcs_laws.specs.Rows.{is_free, put_row, marked, set_mark}
use Rattle.conflict_index.specs.Slots.{slots_of, slots_below}

below_kept : (slot : ℕ) (rows : List Row) → slots_below slot rows ≡ true → filter (λ r. nat_lt r.entry.slot slot) rows ≡ rows
below_kept slot [] below = refl
below_kept slot (r ∷ rs) below =
    let parts = and_parts (nat_lt r.entry.slot slot) (slots_below slot rs) below in
    cond-true (nat_lt r.entry.slot slot) (r ∷ filter (λ r. nat_lt r.entry.slot slot) rs) (filter (λ r. nat_lt r.entry.slot slot) rs) parts.0
    ∙ ap (λ rows. r ∷ rows) (below_kept slot rs parts.1)

above_dropped : (slot : ℕ) (rows : List Row) → slots_below slot rows ≡ true → filter (λ r. nat_lt slot r.entry.slot) rows ≡ []
above_dropped slot [] below = refl
above_dropped slot (r ∷ rs) below =
    let parts = and_parts (nat_lt r.entry.slot slot) (slots_below slot rs) below in
    let less = ltb-true r.entry.slot slot parts.0 in
    cond-false (nat_lt slot r.entry.slot) (r ∷ filter (λ r. nat_lt slot r.entry.slot) rs) (filter (λ r. nat_lt slot r.entry.slot) rs)
    (le-ltb slot r.entry.slot (omega arith))
    ∙ above_dropped slot rs parts.1

pub put_last : (rows : List Row) (row : Row) → slots_below row.entry.slot rows ≡ true → put_row rows row ≡ rows ++ row ∷ []
put_last rows row below =
    ap (λ lower. lower ++ row ∷ filter (λ r. nat_lt row.entry.slot r.entry.slot) rows) (below_kept row.entry.slot rows below)
    ∙ ap (λ upper. rows ++ row ∷ upper) (above_dropped row.entry.slot rows below)

none_there : (slot : ℕ) (rows : List Row) → slots_below slot rows ≡ true → list_any (λ r. r.entry.slot == slot) rows ≡ false
none_there slot [] below = refl
none_there slot (r ∷ rs) below =
    let parts = and_parts (nat_lt r.entry.slot slot) (slots_below slot rs) below in
    let less = ltb-true r.entry.slot slot parts.0 in
    let other = ne_eqb r.entry.slot slot (λ e. omega arith) in
    let rest = none_there slot rs parts.1 in
    rw (other, rest) refl

pub free_last : (slot : ℕ) (rows : List Row) → slots_below slot rows ≡ true → is_free rows slot ≡ true
free_last slot rows below = not_from_false _ (none_there slot rows below)

-- with a row put last all slots are below what is above its slot
pub below_next : (next : ℕ) (rows : List Row) (row : Row) → slots_below row.entry.slot rows ≡ true → row.entry.slot < next
    → slots_below next (rows ++ row ∷ []) ≡ true
below_next next [] row below above = and_from (nat_lt row.entry.slot next) true (lt-ltb row.entry.slot next above) refl
below_next next (r ∷ rs) row below above =
    let parts = and_parts (nat_lt r.entry.slot row.entry.slot) (slots_below row.entry.slot rs) below in
    let less = ltb-true r.entry.slot row.entry.slot parts.0 in
    and_from (nat_lt r.entry.slot next) (slots_below next (rs ++ row ∷ [])) (lt-ltb r.entry.slot next (omega arith))
    (below_next next rs row parts.1 above)

pub slots_marked : (slot : ℕ) (mark : Mark) (rows : List Row) → slots_of (marked rows slot mark) ≡ slots_of rows
slots_marked slot mark [] = refl
slots_marked slot mark (r ∷ rs) =
    let rest = ap (λ slots. r.entry.slot ∷ slots) (slots_marked slot mark rs) in
    cond_both (r.entry.slot == slot) (set_mark mark r) r
    (λ x. x.entry.slot ∷ slots_of (marked rs slot mark) ≡ r.entry.slot ∷ slots_of rs) (λ _. rest) (λ _. rest)
