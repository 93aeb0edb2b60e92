-- Elements that ascend by a number: the place of the one with a given number.
use Rattle.std.proofs.Common.{◌≡◌, ℕ, suc, ◌+◌, ◌-◌, ◌<◌, ◌≤◌, Bool, true, false, cond, List, [], ◌∷◌, length, map, get_or, Some, None, refl, ◌∙◌, ap, arith}
use Rattle.std.specs.Prelude.{◌==◌, nat_lt, find, if◌then◌else◌}
use Rattle.std.specs.List.{slice_get, position_from, range_with_len}
use Rattle.std.proofs.Math.ListN.{set}
use Rattle.std.proofs.Math.Nat.{sub-zero}
use Rattle.std.proofs.lemmas.Bool.{eqb-true}
use Rattle.std.proofs.lemmas.Bool.Decides.{nat_tests}
use Rattle.tcs_terms.specs.Order.{ascends}
use Rattle.tcs_terms.proofs.BoolLaws.{left_of, right_of}

module _ {X : Type 0} (key : X → ℕ) where
  -- above the number no element has it
  unchanged_above : (k lower : ℕ) (y : X) (xs : List X) → k ≤ lower → ascends (lower ∷ map key xs) ≡ true → map (λ x. if key x == k then y else x) xs ≡ xs
  unchanged_above k lower y [] le h = refl
  unchanged_above k lower y (x ∷ xs) le h =
      let first : nat_lt lower (key x) ≡ true = left_of (nat_lt lower (key x)) (ascends (key x ∷ map key xs)) h in
      let rest : ascends (key x ∷ map key xs) ≡ true = right_of (nat_lt lower (key x)) (ascends (key x ∷ map key xs)) h in
      let other : (key x == k) ≡ false = grind (arith, nat_tests) in
      let below : k ≤ key x = grind (arith, nat_tests) in
      rw other (ap (λ (zs : List X). x ∷ zs) (unchanged_above k (key x) y xs below rest))

  -- the element at a place is the one with the number
  pub record HasPlace (k at : ℕ) (xs : List X) : Type 0 where
    pub within : at < length xs
    pub own : (d : X) → key (get_or xs at d) ≡ k
    pub found : find (λ x. key x == k) xs ≡ slice_get xs at
    pub put : (y : X) → map (λ x. if key x == k then y else x) xs ≡ set xs at y

  rest_ascends : (x : X) (xs : List X) → ascends (key x ∷ map key xs) ≡ true → ascends (map key xs) ≡ true
  rest_ascends x [] h = refl
  rest_ascends x (y ∷ ys) h = right_of (nat_lt (key x) (key y)) (ascends (key y ∷ map key ys)) h

  place_from : (k i at : ℕ) (xs : List X) → ascends (map key xs) ≡ true → position_from (λ x. key x == k) i xs ≡ Some at → (i ≤ at) × HasPlace k (at - i) xs
  place_from k i at [] h e = absurd cc
  place_from k i at (x ∷ xs) h e = go (key x == k) refl (place_from k (i + 1) at xs (rest_ascends x xs h)) e where
    go : (b : Bool) → (key x == k) ≡ b
        → (position_from (λ x. key x == k) (i + 1) xs ≡ Some at → (i + 1 ≤ at) × HasPlace k (at - (i + 1)) xs)
        → cond b (Some i) (position_from (λ x. key x == k) (i + 1) xs) ≡ Some at
        → (i ≤ at) × HasPlace k (at - i) (x ∷ xs)
    go true same more found =
        let here : i ≡ at = cc in
        let first : at - i ≡ 0 = omega arith in
        let own : key x ≡ k = eqb-true (key x) k same in
        let low : k ≤ key x = omega arith in (
          omega arith,
          record {
            within = omega arith;
            own = λ d. rw first own;
            found = rw (first, same) refl;
            put = λ y. rw (first, same) (ap (λ (zs : List X). y ∷ zs) (unchanged_above k (key x) y xs low h));
          },
        )
    go false other more found =
        let rest = more found in
        let from : i + 1 ≤ at = rest.0 in
        let next : at - i ≡ suc (at - (i + 1)) = omega arith in (
          omega arith,
          record {
            within = omega (arith, rest.1.within);
            own = λ d. rw next (rest.1.own d);
            found = rw (next, other) rest.1.found;
            put = λ y. rw (next, other) (ap (λ (zs : List X). x ∷ zs) (rest.1.put y));
          },
        )

  pub place : (k at : ℕ) (xs : List X) → ascends (map key xs) ≡ true → position_from (λ x. key x == k) 0 xs ≡ Some at → HasPlace k at xs
  place k at xs h e = rw sub-zero at ((place_from k 0 at xs h e).1)

  -- where no element has the number
  pub record HasNoPlace (k : ℕ) (xs : List X) : Type 0 where
    pub found : find (λ x. key x == k) xs ≡ None
    pub put : (y : X) → map (λ x. if key x == k then y else x) xs ≡ xs

  pub no_place : (k i : ℕ) (xs : List X) → position_from (λ x. key x == k) i xs ≡ None → HasNoPlace k xs
  no_place k i [] e = record { found = refl; put = λ y. refl }
  no_place k i (x ∷ xs) e = go (key x == k) refl (no_place k (i + 1) xs) e where
    go : (b : Bool) → (key x == k) ≡ b → (position_from (λ x. key x == k) (i + 1) xs ≡ None → HasNoPlace k xs)
        → cond b (Some i) (position_from (λ x. key x == k) (i + 1) xs) ≡ None → HasNoPlace k (x ∷ xs)
    go true same more h = absurd cc
    go false other more h =
        let rest = more h in
        record { found = rw other rest.found; put = λ y. rw other (ap (λ (zs : List X). x ∷ zs) (rest.put y)) }

  -- ---- numbered one by one from a number on

  first_key : (a : ℕ) (x : X) (xs : List X) → map key (x ∷ xs) ≡ range_with_len a (length (x ∷ xs)) → key x ≡ a
  first_key a x xs e = cc

  other_keys : (a : ℕ) (x : X) (xs : List X) → map key (x ∷ xs) ≡ range_with_len a (length (x ∷ xs)) → map key xs ≡ range_with_len (a + 1) (length xs)
  other_keys a x xs e = cc

  pub own_place : (k i a : ℕ) (xs : List X) → map key xs ≡ range_with_len a (length xs) → a ≤ k → k < a + length xs → position_from (λ x. key x == k) i xs ≡ Some (i + (k - a))
  own_place k i a [] e low high = absurd (omega arith)
  own_place k i a (x ∷ xs) e low high = go (key x == k) refl (own_place k (i + 1) (a + 1) xs (other_keys a x xs e)) where
    head : key x ≡ a
    head = first_key a x xs e

    go : (b : Bool) → (key x == k) ≡ b
        → (a + 1 ≤ k → k < a + 1 + length xs → position_from (λ x. key x == k) (i + 1) xs ≡ Some (i + 1 + (k - (a + 1))))
        → cond b (Some i) (position_from (λ x. key x == k) (i + 1) xs) ≡ Some (i + (k - a))
    go true same more =
        let own : key x ≡ k = eqb-true (key x) k same in
        let first : i ≡ i + (k - a) = omega (arith, head) in
        ap (λ (n : ℕ). Some n) first
    go false other more =
        let differ : a < k = grind (arith, nat_tests, head) in
        let at : i + 1 + (k - (a + 1)) ≡ i + (k - a) = omega arith in
        more (omega arith) (omega arith) ∙ ap (λ (n : ℕ). Some n) at

  pub no_place_below : (k i a : ℕ) (xs : List X) → map key xs ≡ range_with_len a (length xs) → k < a → position_from (λ x. key x == k) i xs ≡ None
  no_place_below k i a [] e low = refl
  no_place_below k i a (x ∷ xs) e low =
      let head : key x ≡ a = first_key a x xs e in
      let other : (key x == k) ≡ false = grind (arith, nat_tests) in
      rw other (no_place_below k (i + 1) (a + 1) xs (other_keys a x xs e) (omega arith))

  pub no_place_above : (k i a : ℕ) (xs : List X) → map key xs ≡ range_with_len a (length xs) → a + length xs ≤ k → position_from (λ x. key x == k) i xs ≡ None
  no_place_above k i a [] e high = refl
  no_place_above k i a (x ∷ xs) e high =
      let head : key x ≡ a = first_key a x xs e in
      let other : (key x == k) ≡ false = grind (arith, nat_tests) in
      rw other (no_place_above k (i + 1) (a + 1) xs (other_keys a x xs e) (omega arith))
