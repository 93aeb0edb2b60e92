-- Rows end below others exactly where each of their slots is below each of the others'.
use Rattle.std.proofs.Common.{◌≡◌, ◌<◌, ◌≤◌, ◌-◌, suc, true, List, [], ◌∷◌, length, Some, inl, inr, refl, arith}
use Rattle.std.specs.List.{slice_get}
use Rattle.std.proofs.lemmas.Bool.{ltb-true, lt-ltb}
use Rattle.tcs_terms.specs.declared.logs.Row.{Row}
use Rattle.protocol.specs.Invariant.Time.{StandsIn}
use Rattle.state_transfer.specs.Apart.{rises, ends_below}
use Rattle.state_transfer.proofs.Chains.{Chain}
use Rattle.state_transfer.proofs.Wholeness.{Precedes}

-- rows end with one whose slot is at or above each other's
record Last (rows : List Row) (last : Row) : Type 0 where
  there : slice_get rows (length rows - 1) ≡ Some last
  stands : StandsIn last rows
  above : (r : Row) → StandsIn r rows → r.entry.slot ≤ last.entry.slot

last_of : (r : Row) (rows : List Row) → Chain Precedes (r ∷ rows) → (last : Row) × Last (r ∷ rows) last
last_of r [] chain = (r, record { there = refl; stands = inl refl; above = λ s at. elim at [ inl e ↦ rw e (omega arith) | inr at ↦ absurd at ] })
last_of r (s ∷ rows) chain = go (last_of s rows chain.1) where
  go : ((last : Row) × Last (s ∷ rows) last) → (last : Row) × Last (r ∷ s ∷ rows) last
  go p = (
    p.0,
    record {
      there = let e : length (r ∷ s ∷ rows) - 1 ≡ suc (length (s ∷ rows) - 1) = omega arith in rw e p.1.there;
      stands = inr p.1.stands;
      above = λ x at. elim at [ inl e ↦ rw e (omega (arith, (chain.0 p.0 p.1.stands).below)) | inr later ↦ p.1.above x later ];
    },
  )

first_below : (r : Row) (rows : List Row) → Chain Precedes (r ∷ rows) → (s : Row) → StandsIn s (r ∷ rows) → r.entry.slot ≤ s.entry.slot
first_below r rows chain s (inl e) = rw e (omega arith)
first_below r rows chain s (inr at) = omega (arith, (chain.0 s at).below)

-- rows end below others exactly where each slot of theirs is below each of the others
pub slots_below : (lower upper : List Row) → Chain Precedes lower → Chain Precedes upper → ends_below lower upper ≡ true → (x y : Row) → StandsIn x lower → StandsIn y upper → x.entry.slot < y.entry.slot
slots_below [] upper low up below x y s t = absurd s
slots_below (r ∷ rows) [] low up below x y s t = absurd t
slots_below (r ∷ rows) (u ∷ us) low up below x y s t =
    let last = last_of r rows low in
    let ends : rises (Some last.0) (Some u) ≡ true = rw last.1.there at below in
    omega (arith, ltb-true last.0.entry.slot u.entry.slot ends, last.1.above x s, first_below u us up y t)

pub below_ends : (lower upper : List Row) → Chain Precedes lower → Chain Precedes upper → ((x y : Row) → StandsIn x lower → StandsIn y upper → x.entry.slot < y.entry.slot) → ends_below lower upper ≡ true
below_ends [] upper low up below = refl
below_ends (r ∷ rows) [] low up below = let last = last_of r rows low in rw last.1.there refl
below_ends (r ∷ rows) (u ∷ us) low up below =
    let last = last_of r rows low in
    rw last.1.there (lt-ltb last.0.entry.slot u.entry.slot (below last.0 u last.1.stands (inl refl)))
