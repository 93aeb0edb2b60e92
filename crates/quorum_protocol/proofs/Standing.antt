-- What stands in lists.
use Rattle.std.proofs.Common.{◌≡◌, refl, sym, ℕ, zero, suc, ◌+◌, ◌<◌, ◌≤◌, ◌==◌, ◌||◌, Bool, true, false, List, [], ◌∷◌, ◌++◌, map, ◌⊎◌, inl, inr, arith, eqb-true}
use Rattle.std.proofs.lemmas.Bool.Decides.{nat_tests}
use Rattle.std.specs.List.{range_with_len}
use Rattle.tcs_terms.specs.Places.{is_among}
use Rattle.quorum_protocol.specs.Theorem.{StandsIn}

pub stands_front : {X : Type 0} (xs ys : List X) (x : X) → StandsIn x xs → StandsIn x (xs ++ ys)
stands_front [] ys x s = absurd s
stands_front (z ∷ zs) ys x (inl e) = inl e
stands_front (z ∷ zs) ys x (inr s) = inr (stands_front zs ys x s)

pub stands_back : {X : Type 0} (xs ys : List X) (x : X) → StandsIn x ys → StandsIn x (xs ++ ys)
stands_back [] ys x s = s
stands_back (z ∷ zs) ys x s = inr (stands_back zs ys x s)

pub stands_either : {X : Type 0} (xs ys : List X) (x : X) → StandsIn x (xs ++ ys) → StandsIn x xs ⊎ StandsIn x ys
stands_either [] ys x s = inr s
stands_either (z ∷ zs) ys x (inl e) = inl (inl e)
stands_either (z ∷ zs) ys x (inr s) = elim (stands_either zs ys x s) [ inl r ↦ inl (inr r) | inr r ↦ inr r ]

-- what stands in a list whose elements were changed each comes from an element
pub stands_map : {X Y : Type 0} (f : X → Y) (xs : List X) (y : Y) → StandsIn y (map f xs) → (x : X) × StandsIn x xs × (y ≡ f x)
stands_map f [] y s = absurd s
stands_map f (x ∷ xs) y (inl e) = (x, inl refl, e)
stands_map f (x ∷ xs) y (inr s) = let h = stands_map f xs y s in (h.0, inr h.1, h.2)

-- numbers from one on, as many as these, are above it and no more
pub stands_range : (n from x : ℕ) → StandsIn x (range_with_len from n) → (from ≤ x) × (x < from + n)
stands_range zero from x s = absurd s
stands_range (suc n) from x (inl e) = (omega arith, omega arith)
stands_range (suc n) from x (inr s) = let h = stands_range n (from + 1) x s in (omega arith, omega arith)

-- each stands in a list once
abbrev pub Distinct : List ℕ → Type 0
Distinct [] = Unit {0}
Distinct (x ∷ xs) = (StandsIn x xs → ⊥) × Distinct xs

-- each is a number from 1 to the last
abbrev pub Within : ℕ → List ℕ → Type 0
Within last xs = (x : ℕ) → StandsIn x xs → (1 ≤ x) × (x ≤ last)

pub among_stands : (xs : List ℕ) (n : ℕ) → is_among xs n ≡ true → StandsIn n xs
among_stands [] n h = absurd (cc h)
among_stands (x ∷ xs) n h = go (x == n) refl h (among_stands xs n)
  where
    go : (b : Bool) → (x == n) ≡ b → (b || is_among xs n) ≡ true → (is_among xs n ≡ true → StandsIn n xs) → StandsIn n (x ∷ xs)
    go true e k ih = inl (sym (eqb-true x n e))
    go false e k ih = inr (ih k)

pub stands_among : (xs : List ℕ) (n : ℕ) → is_among xs n ≡ false → StandsIn n xs → ⊥
stands_among [] n h s = s
stands_among (x ∷ xs) n h s = go (x == n) refl h s (stands_among xs n)
  where
    go : (b : Bool) → (x == n) ≡ b → (b || is_among xs n) ≡ false → StandsIn n (x ∷ xs) → (is_among xs n ≡ false → StandsIn n xs → ⊥) → ⊥
    go true e k t ih = absurd (cc k)
    go false e k (inl p) ih = grind (arith, nat_tests)
    go false e k (inr r) ih = ih k r

pub distinct_push : (xs : List ℕ) (x : ℕ) → Distinct xs → (StandsIn x xs → ⊥) → Distinct (xs ++ x ∷ [])
distinct_push [] x d n = ((λ s. s), tt)
distinct_push (y ∷ ys) x d n =
    ((λ s. elim (stands_either ys (x ∷ []) y s) [ inl r ↦ d.0 r | inr r ↦ elim r [ inl e ↦ n (inl (sym e)) | inr z ↦ z ] ]), distinct_push ys x d.1 (λ s. n (inr s)))
