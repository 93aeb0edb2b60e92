-- Lemmas on what stands in a list.
use Rattle.std.proofs.Common.{◌≡◌, ℕ, Bool, true, false, cond, List, [], ◌∷◌, ◌++◌, Some, find, ◌&&◌, ◌||◌, ◌==◌, ◌⊎◌, inl, inr, sym, refl, eqb-true}
use Rattle.std.specs.List.{list_all}
use Rattle.tcs_terms.specs.Places.{is_among}
use Rattle.protocol.specs.Invariant.Time.{StandsIn}

-- an element that passes `find` stands in the list and passes the test
pub find-StandsIn : {X : Type 0} (p : X → Bool) (xs : List X) (x : X) → find p xs ≡ Some x → StandsIn x xs × (p x ≡ true)
find-StandsIn p [] x h = absurd (cc h)
find-StandsIn {X = X} p (y ∷ ys) x h = go (p y) refl h (find-StandsIn p ys x)
  where
    go : (b : Bool) → p y ≡ b → cond b (Some y) (find p ys) ≡ Some x → (find p ys ≡ Some x → StandsIn x ys × (p x ≡ true)) → StandsIn x (y ∷ ys) × (p x ≡ true)
    go true e k ih = (inl cc, cc)
    go false e k ih = (inr (ih k).0, (ih k).1)

-- an element of a list whose elements all pass a test passes it
pub all-StandsIn : {X : Type 0} (p : X → Bool) (xs : List X) (x : X) → list_all p xs ≡ true → StandsIn x xs → p x ≡ true
all-StandsIn p [] x h s = absurd s
all-StandsIn p (y ∷ ys) x h s = go (p y) refl h s (all-StandsIn p ys x)
  where
    go : (b : Bool) → p y ≡ b → (b && list_all p ys) ≡ true → StandsIn x (y ∷ ys) → (list_all p ys ≡ true → StandsIn x ys → p x ≡ true) → p x ≡ true
    go true e k (inl q) ih = cc
    go true e k (inr q) ih = ih k q
    go false e k q ih = absurd (cc k)

-- a number that is among others stands in their list
pub among-StandsIn : (xs : List ℕ) (n : ℕ) → is_among xs n ≡ true → StandsIn n xs
among-StandsIn [] n h = absurd (cc h)
among-StandsIn (x ∷ xs) n h = go (x == n) refl h (among-StandsIn xs n)
  where
    go : (b : Bool) → (x == n) ≡ b → (b || is_among xs n) ≡ true → (is_among xs n ≡ true → StandsIn n xs) → StandsIn n (x ∷ xs)
    go true e k ih = inl (sym (eqb-true x n e))
    go false e k ih = inr (ih k)

-- what stands in two lists joined stands in one of them
pub StandsIn-append : {X : Type 0} (xs ys : List X) (x : X) → StandsIn x (xs ++ ys) → StandsIn x xs ⊎ StandsIn x ys
StandsIn-append [] ys x s = inr s
StandsIn-append (z ∷ zs) ys x (inl e) = inl (inl e)
StandsIn-append (z ∷ zs) ys x (inr s) = elim (StandsIn-append zs ys x s) [ inl r ↦ inl (inr r) | inr r ↦ inr r ]
