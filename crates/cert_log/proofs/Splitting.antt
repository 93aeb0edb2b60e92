-- What a binary search by slots says, and the place of a slot that no row has.
use Rattle.std.proofs.Common.{◌≡◌, ℕ, ◌<◌, ◌≤◌, true, false, cond, List, [], ◌∷◌, length, get_or, take, drop, Some, None, Ok, Err, Result, sym, ap, ◌∙◌, subst, inl, inr, arith}
use Rattle.std.specs.Prelude.{◌==◌, nat_lt, is_some, MatchResult}
use Rattle.std.specs.List.{list_any}
use Rattle.std.specs.List.Sorted.{IsBinarySearchResult, IsNonDecreasingBy, IsSearchInRange}
use Rattle.std.specs.Ordering.{nat_cmp, ordering_index}
use Rattle.std.specs.declared.cmp.Ordering.TheVariants.{Less, Equal, Greater}
use Rattle.std.proofs.lemmas.Bool.{lt-ltb, le-ltb, cases_lt, cases_order, eq-eqb, ne_eqb, cond-true, cond-false}
use Rattle.std.proofs.lemmas.List.{get_or-map, take-append-drop}
use Rattle.tcs_terms.specs.declared.logs.Row.{Row}
use Rattle.tcs_terms.specs.Order.{ascends}
use Rattle.protocol.specs.Log.{row_at}
use Rattle.cert_log.specs.Places.{slots_of, StandsAt, SplitsAt}
use Rattle.cert_log.proofs.Ascending.{is_below, is_above, all_taken, all_dropped, none_found, rises, row_at-here}
use Rattle.cert_log.proofs.Putting.{free_between}

-- ---- comparisons of numbers

less_of : (a b : ℕ) → a < b → nat_cmp a b ≡ Less
less_of a b lower = cond-true (nat_lt a b) Less (cond (a == b) Equal Greater) (lt-ltb a b lower)

equal_of : (a b : ℕ) → a ≡ b → nat_cmp a b ≡ Equal
equal_of a b same =
    cond-false (nat_lt a b) Less (cond (a == b) Equal Greater) (le-ltb a b (omega arith)) ∙ cond-true (a == b) Equal Greater (eq-eqb a b same)

greater_of : (a b : ℕ) → b < a → nat_cmp a b ≡ Greater
greater_of a b upper =
    cond-false (nat_lt a b) Less (cond (a == b) Equal Greater) (le-ltb a b (omega arith)) ∙ cond-false (a == b) Equal Greater (ne_eqb a b (λ e. omega arith))

less_is : (a b : ℕ) → nat_cmp a b ≡ Less → nat_lt a b ≡ true
less_is a b h = elim (cases_order a b) [
  | inl same ↦ absurd (let e = equal_of a b same in cc)
  | inr (inl lower) ↦ lt-ltb a b lower
  | inr (inr upper) ↦ absurd (let e = greater_of a b upper in cc)
]

greater_is : (a b : ℕ) → nat_cmp a b ≡ Greater → nat_lt b a ≡ true
greater_is a b h = elim (cases_order a b) [
  | inl same ↦ absurd (let e = equal_of a b same in cc)
  | inr (inl lower) ↦ absurd (let e = less_of a b lower in cc)
  | inr (inr upper) ↦ lt-ltb b a upper
]

equal_is : (a b : ℕ) → nat_cmp a b ≡ Equal → a ≡ b
equal_is a b h = elim (cases_order a b) [
  | inl same ↦ same
  | inr (inl lower) ↦ absurd (let e = less_of a b lower in cc)
  | inr (inr upper) ↦ absurd (let e = greater_of a b upper in cc)
]

index_grows : (a b t : ℕ) → a ≤ b → ordering_index (nat_cmp a t) ≤ ordering_index (nat_cmp b t)
index_grows a b t le = elim (cases_order a t) [
  | inl same ↦ elim (cases_order b t) [
    | inl equal ↦ rw (equal_of a t same, equal_of b t equal) (omega arith)
    | inr (inl lower) ↦ absurd (omega arith)
    | inr (inr upper) ↦ rw (equal_of a t same, greater_of b t upper) (omega arith)
  ]
  | inr (inl lower) ↦ rw (less_of a t lower) (omega arith)
  | inr (inr upper) ↦ let more : t < b = omega arith in rw (greater_of a t upper, greater_of b t more) (omega arith)
]

-- ---- the search

-- the slots do not fall, by their comparison with any slot
rises_to : (rows : List Row) (slot : ℕ) → ascends (slots_of rows) ≡ true → IsNonDecreasingBy (λ r. ordering_index (nat_cmp r.entry.slot slot)) rows
rises_to rows slot up i j d upto within = elim (cases_lt i j) [
  | inl before ↦
      let more = rises rows i j d up before within in
      index_grows (get_or rows i d).entry.slot (get_or rows j d).entry.slot slot (omega arith)
  | inr same ↦ let one : i ≡ j = omega arith in subst (λ k. ordering_index (nat_cmp (get_or rows i d).entry.slot slot) ≤ ordering_index (nat_cmp (get_or rows k d).entry.slot slot)) one (omega arith)
]

pub placed : (rows : List Row) (slot : ℕ) (r : Result ℕ ℕ) → ascends (slots_of rows) ≡ true → IsSearchInRange r (length rows)
    → IsBinarySearchResult (λ x. nat_cmp x.entry.slot slot) rows r → MatchResult r (StandsAt rows slot) (SplitsAt rows slot)
placed [] slot (Ok at) up within found = absurd (omega arith)
placed (x ∷ rows) slot (Ok at) up within found = record {
  within = within;
  here = get_or-map (λ r. r.entry.slot) (x ∷ rows) at x 0 within ∙ equal_is (get_or (x ∷ rows) at x).entry.slot slot (found x);
}
placed rows slot (Err at) up within split =
    let sides = split (rises_to rows slot up) in
    record {
      within = within;
      below = all_taken (is_below slot) rows at (λ k d before _. less_is (get_or rows k d).entry.slot slot (sides.0 k d (omega arith) before));
      above = all_dropped (is_above slot) rows at (λ k d after inside. greater_is (get_or rows k d).entry.slot slot (sides.1 k d after inside));
    }

-- ---- what stands at a slot

-- where the rows are split, no row has the slot
pub split_is_free : (rows : List Row) (slot at : ℕ) → SplitsAt rows slot at → list_any (λ r. r.entry.slot == slot) rows ≡ false
split_is_free rows slot at split =
    subst (λ (xs : List Row). list_any (λ r. r.entry.slot == slot) xs ≡ false) (take-append-drop at rows)
    (free_between (take at rows) (drop at rows) slot split.below split.above)

pub none_at_split : (rows : List Row) (slot at : ℕ) → SplitsAt rows slot at → row_at rows slot ≡ None
none_at_split rows slot at split = none_found (λ r. r.entry.slot == slot) rows (split_is_free rows slot at split)

-- the row at an index is found by its slot
pub some_at_stand : (rows : List Row) (slot at : ℕ) (d : Row) → ascends (slots_of rows) ≡ true → StandsAt rows slot at → row_at rows slot ≡ Some (get_or rows at d)
some_at_stand rows slot at d up stand =
    row_at-here rows slot at d up stand.within (sym (get_or-map (λ r. r.entry.slot) rows at d 0 stand.within) ∙ stand.here)

-- where a row stands, its slot is not free
pub not_free : (rows : List Row) (slot at : ℕ) → ascends (slots_of rows) ≡ true → StandsAt rows slot at → is_some (row_at rows slot) ≡ false → ⊥
not_free [] slot at up stand free = omega (arith, stand.within)
not_free (r ∷ rows) slot at up stand free =
    let some : is_some (row_at (r ∷ rows) slot) ≡ true = ap is_some (some_at_stand (r ∷ rows) slot at r up stand) in
    cc
