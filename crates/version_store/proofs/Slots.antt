-- Rows whose slots ascend.
use Rattle.std.proofs.Common.{◌≡◌, ℕ, ◌<◌, ◌≤◌, zero, suc, true, List, [], ◌∷◌, length, get_or, map, refl, arith}
use Rattle.std.specs.Prelude.{nat_lt}
use Rattle.std.proofs.lemmas.Bool.{and_parts, ltb-true}
use Rattle.tcs_terms.specs.Order.{ascends}
use Rattle.tcs_terms.specs.declared.logs.Row.{Row}
use Rattle.version_store.specs.Keeping.{SlotsAscend}

-- all rows lie above a slot
abbrev pub AllAbove : ℕ → List Row → Type 0
AllAbove low [] = Unit {0}
AllAbove low (r ∷ rs) = (low < r.entry.slot) × AllAbove low rs

-- they lie above lower ones too
pub above_more : (low high : ℕ) → low ≤ high → (rows : List Row) → AllAbove high rows → AllAbove low rows
above_more low high less [] above = tt
above_more low high less (r ∷ rs) above = let first = above.0 in (omega arith, above_more low high less rs above.1)

above_first : (low : ℕ) (rows : List Row) → ascends (low ∷ map (λ r. r.entry.slot) rows) ≡ true → AllAbove low rows
above_first low [] rise = tt
above_first low (r ∷ rs) rise =
    let parts = and_parts (nat_lt low r.entry.slot) (ascends (r.entry.slot ∷ map (λ r. r.entry.slot) rs)) rise in
    let less = ltb-true low r.entry.slot parts.0 in
    (less, above_more low r.entry.slot (omega arith) rs (above_first r.entry.slot rs parts.1))

-- the rows after the first lie above it
pub rest_above : (r : Row) (rs : List Row) → SlotsAscend (r ∷ rs) → AllAbove r.entry.slot rs
rest_above r rs rise = above_first r.entry.slot rs rise

-- and ascend
pub rest_ascends : (r : Row) (rs : List Row) → SlotsAscend (r ∷ rs) → SlotsAscend rs
rest_ascends r [] rise = refl
rest_ascends r (x ∷ xs) rise = (and_parts (nat_lt r.entry.slot x.entry.slot) (ascends (map (λ r. r.entry.slot) (x ∷ xs))) rise).1

-- one of the rows that lie above a slot
pub above_at : (low : ℕ) (rows : List Row) → AllAbove low rows → (j : ℕ) (d : Row) → j < length rows → low < (get_or rows j d).entry.slot
above_at low [] above j d within = absurd (omega arith)
above_at low (r ∷ rs) above zero d within = above.0
above_at low (r ∷ rs) above (suc j) d within = above_at low rs above.1 j d (omega arith)
