-- The lowest slot that clashes is that of the first row that clashes.
use Rattle.std.proofs.Common.{◌≡◌, ℕ, ◌<◌, ◌≤◌, true, false, ◌&&◌, cond, List, [], ◌∷◌, refl, sym, ap, ◌∙◌, inl, inr, arith}
use Rattle.std.specs.Prelude.{◌==◌, nat_lt, Option, Some, None, find}
use Rattle.std.specs.List.{list_all}
use Rattle.std.proofs.lemmas.Bool.{cond_both, cond-true, cond-false, and_parts, and_from, or_cases, or_left, or_right, eqb-true, eq-eqb, ne_eqb, ltb-true, ltb-false, false_from_ne_true, both_ways}
use Rattle.tcs_terms.specs.declared.logs.Row.{Row}
use Rattle.tcs_terms.specs.Payloads.{Accesses}
use Rattle.tcs_laws.specs.Certification.{Tests}
use Rattle.tcs_laws.specs.Votes.{clashes, vote_on, vote_by}
use Rattle.conflict_index.specs.Candidates.{clashes_at, is_lower, vote_at}
use Rattle.conflict_index.specs.Keeping.{slots_rise}

-- a slot that clashes among rows above another is above it too
pub clash_above : (tests : Tests) (new : Accesses) (slot : ℕ) (rows : List Row) (low : ℕ)
    → list_all (λ later. nat_lt low later.entry.slot) rows ≡ true → clashes_at tests rows new slot ≡ true → low < slot
clash_above tests new slot [] low above clash = absurd (let no : false ≡ true = clash in cc)
clash_above tests new slot (r ∷ rs) low above clash =
    let parts = and_parts (nat_lt low r.entry.slot) (list_all (λ later. nat_lt low later.entry.slot) rs) above in
    elim (or_cases ((r.entry.slot == slot) && clashes tests r new) (clashes_at tests rs new slot) clash) [
      | inl here ↦ let same = eqb-true r.entry.slot slot (and_parts (r.entry.slot == slot) (clashes tests r new) here).0 in
          let below = ltb-true low r.entry.slot parts.0 in omega arith
      | inr later ↦ clash_above tests new slot rs low parts.1 later
    ]

-- the row of the lowest slot that clashes is the first that clashes
lowest_is_first : (tests : Tests) (new : Accesses) (slot : ℕ) (rows : List Row) → slots_rise rows ≡ true
    → clashes_at tests rows new slot ≡ true
    → ((other : ℕ) → clashes_at tests rows new other ≡ true → slot ≤ other)
    → find (λ r. r.entry.slot == slot) rows ≡ find (λ r. clashes tests r new) rows
lowest_is_first tests new slot [] rise clash lowest = refl
lowest_is_first tests new slot (r ∷ rs) rise clash lowest =
    let parts = and_parts (list_all (λ later. nat_lt r.entry.slot later.entry.slot) rs) (slots_rise rs) rise in
    let at_head : (r.entry.slot == r.entry.slot) ≡ true = eq-eqb r.entry.slot r.entry.slot refl in
    cond_both (clashes tests r new) (Some r) (find (λ x. clashes tests x new) rs)
    (λ o. cond (r.entry.slot == slot) (Some r) (find (λ x. x.entry.slot == slot) rs) ≡ o)
    (λ clashing.
    let low : slot ≤ r.entry.slot = lowest r.entry.slot (or_left ((r.entry.slot == r.entry.slot) && clashes tests r new) (clashes_at tests rs new r.entry.slot) (and_from _ _ at_head clashing)) in
    let same : r.entry.slot ≡ slot = elim (or_cases ((r.entry.slot == slot) && clashes tests r new) (clashes_at tests rs new slot) clash) [
      | inl here ↦ eqb-true r.entry.slot slot (and_parts (r.entry.slot == slot) (clashes tests r new) here).0
      | inr later ↦ let above = clash_above tests new slot rs r.entry.slot parts.0 later in absurd (omega arith)
    ] in
    cond-true (r.entry.slot == slot) (Some r) (find (λ x. x.entry.slot == slot) rs) (eq-eqb r.entry.slot slot same))
    (λ passing.
    let later : clashes_at tests rs new slot ≡ true = elim (or_cases ((r.entry.slot == slot) && clashes tests r new) (clashes_at tests rs new slot) clash) [
      | inl here ↦ absurd (both_ways _ passing (and_parts (r.entry.slot == slot) (clashes tests r new) here).1)
      | inr later ↦ later
    ] in
    let above = clash_above tests new slot rs r.entry.slot parts.0 later in
    let other : (r.entry.slot == slot) ≡ false = ne_eqb r.entry.slot slot (λ same. omega arith) in
    cond-false (r.entry.slot == slot) (Some r) (find (λ x. x.entry.slot == slot) rs) other
    ∙ lowest_is_first tests new slot rs parts.1 later
    (λ s clashing. lowest s (or_right ((r.entry.slot == s) && clashes tests r new) (clashes_at tests rs new s) clashing)))

-- where no slot clashes no row does
none_clashes : (tests : Tests) (new : Accesses) (rows : List Row) → ((slot : ℕ) → clashes_at tests rows new slot ≡ false)
    → find (λ r. clashes tests r new) rows ≡ None
none_clashes tests new [] none = refl
none_clashes tests new (r ∷ rs) none =
    let at_head : (r.entry.slot == r.entry.slot) ≡ true = eq-eqb r.entry.slot r.entry.slot refl in
    cond-false (clashes tests r new) (Some r) (find (λ x. clashes tests x new) rs)
    (false_from_ne_true _ (λ clashing. both_ways _ (none r.entry.slot)
    (or_left ((r.entry.slot == r.entry.slot) && clashes tests r new) (clashes_at tests rs new r.entry.slot) (and_from _ _ at_head clashing))))
    ∙ none_clashes tests new rs (λ slot. false_from_ne_true _ (λ clashing. both_ways _ (none slot)
    (or_right ((r.entry.slot == slot) && clashes tests r new) (clashes_at tests rs new slot) clashing)))

-- a slot that clashes, or none, such that none that clashes is lower, gives the vote
pub vote_by_lowest : (tests : Tests) (new : Accesses) (rows : List Row) → slots_rise rows ≡ true → (best : Option ℕ)
    → ((slot : ℕ) → best ≡ Some slot → clashes_at tests rows new slot ≡ true)
    → ((slot : ℕ) → clashes_at tests rows new slot ≡ true → is_lower slot best ≡ false)
    → vote_at rows best ≡ vote_on tests rows new
unfolding vote_on
vote_by_lowest tests new rows rise None sound settled =
    ap vote_by (sym (none_clashes tests new rows (λ slot. false_from_ne_true _ (λ clashing. let no : true ≡ false = settled slot clashing in absurd cc))))
vote_by_lowest tests new rows rise (Some slot) sound settled =
    ap vote_by (lowest_is_first tests new slot rows rise (sound slot refl) (λ other clashing. ltb-false other slot (settled other clashing)))
