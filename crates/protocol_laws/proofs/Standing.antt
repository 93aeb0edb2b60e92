-- What stands in a list that is joined, mapped, filtered, cut or searched, and what passes a test of its elements.
use Rattle.std.proofs.Common.{◌≡◌, ℕ, zero, suc, ◌+◌, ◌<◌, ◌≤◌, Bool, true, false, cond, ◌==◌, ◌||◌, List, [], ◌∷◌, ◌++◌, map, flat_map, filter, find, take, drop, slice_get, Option, Some, None, ◌⊎◌, inl, inr, sym, ap, subst, refl, arith, eq-eqb, is_some}
use Rattle.std.proofs.Math.Nat.{eq-or-lt_of_le}
use Rattle.std.specs.List.{list_all, list_any, last_or, range_with_len}
use Rattle.std.proofs.lemmas.Bool.{and_from, or_left, or_right}
use Rattle.tcs_terms.specs.Places.{is_among}
use Rattle.protocol.specs.Invariant.Time.{StandsIn}
use Rattle.protocol.proofs.Lists.{StandsIn-append}

-- what stands in a list stands in it joined with another one
pub StandsIn-left : {X : Type 0} (xs ys : List X) (x : X) → StandsIn x xs → StandsIn x (xs ++ ys)
StandsIn-left [] ys x s = absurd s
StandsIn-left (z ∷ zs) ys x (inl e) = inl e
StandsIn-left (z ∷ zs) ys x (inr s) = inr (StandsIn-left zs ys x s)

pub StandsIn-right : {X : Type 0} (xs ys : List X) (x : X) → StandsIn x ys → StandsIn x (xs ++ ys)
StandsIn-right [] ys x s = s
StandsIn-right (z ∷ zs) ys x s = inr (StandsIn-right zs ys x s)

-- what stands in a list, stands mapped in the mapped list
pub StandsIn-map : {X Y : Type 0} (f : X → Y) (xs : List X) (x : X) → StandsIn x xs → StandsIn (f x) (map f xs)
StandsIn-map f [] x s = absurd s
StandsIn-map f (z ∷ zs) x (inl e) = inl (ap f e)
StandsIn-map f (z ∷ zs) x (inr s) = inr (StandsIn-map f zs x s)

-- what stands in a mapped list is mapped from what stands in the list
pub record IsMapped {X Y : Type 0} (f : X → Y) (xs : List X) (y : Y) : Type 0 where
  pub from : X
  pub there : StandsIn from xs
  pub is : y ≡ f from

pub map-StandsIn : {X Y : Type 0} (f : X → Y) (xs : List X) (y : Y) → StandsIn y (map f xs) → IsMapped f xs y
map-StandsIn f [] y s = absurd s
map-StandsIn f (z ∷ zs) y (inl e) = record { from = z; there = inl refl; is = e }
map-StandsIn f (z ∷ zs) y (inr s) = let m : IsMapped f zs y = map-StandsIn f zs y s in record { from = m.from; there = inr m.there; is = m.is }

-- what stands in a list and passes the test stands in the filtered list
pub StandsIn-filter : {X : Type 0} (p : X → Bool) (xs : List X) (x : X) → StandsIn x xs → p x ≡ true → StandsIn x (filter p xs)
StandsIn-filter p [] x s h = absurd s
StandsIn-filter p (z ∷ zs) x s h = go (p z) refl s (λ r. StandsIn-filter p zs x r h)
  where
    go : (b : Bool) → p z ≡ b → StandsIn x (z ∷ zs) → (StandsIn x zs → StandsIn x (filter p zs)) → StandsIn x (cond b (z ∷ filter p zs) (filter p zs))
    go true e (inl q) ih = inl q
    go true e (inr q) ih = inr (ih q)
    go false e (inl q) ih = absurd (cc (ap p q, h, e))
    go false e (inr q) ih = ih q

pub filter-StandsIn : {X : Type 0} (p : X → Bool) (xs : List X) (x : X) → StandsIn x (filter p xs) → StandsIn x xs × (p x ≡ true)
filter-StandsIn p [] x s = absurd s
filter-StandsIn p (z ∷ zs) x s = go (p z) refl s (filter-StandsIn p zs x)
  where
    go : (b : Bool) → p z ≡ b → StandsIn x (cond b (z ∷ filter p zs) (filter p zs)) → (StandsIn x (filter p zs) → StandsIn x zs × (p x ≡ true)) → StandsIn x (z ∷ zs) × (p x ≡ true)
    go true e (inl q) ih = (inl q, cc (ap p q, e))
    go true e (inr q) ih = (inr (ih q).0, (ih q).1)
    go false e q ih = (inr (ih q).0, (ih q).1)

-- an answer that is not some is none
pub is-none : {X : Type 0} (o : Option X) → is_some o ≡ false → o ≡ None
is-none None h = refl
is-none (Some x) h = absurd (cc h)

-- where nothing passes, what stands in the list doesn't
pub find-none : {X : Type 0} (p : X → Bool) (xs : List X) (x : X) → find p xs ≡ None → StandsIn x xs → p x ≡ false
find-none p [] x h s = absurd s
find-none {X = X} p (z ∷ zs) x h s = go (p z) refl h s (find-none p zs x)
  where
    go : (b : Bool) → p z ≡ b → cond b (Some z) (find p zs) ≡ None → StandsIn x (z ∷ zs) → (find p zs ≡ None → StandsIn x zs → p x ≡ false) → p x ≡ false
    go true e k q ih = absurd (cc k)
    go false e k (inl q) ih = cc (ap p q, e)
    go false e k (inr q) ih = ih k q

-- a test that each element passes, all pass
pub all-from : {X : Type 0} (p : X → Bool) (xs : List X) → ((x : X) → StandsIn x xs → p x ≡ true) → list_all p xs ≡ true
all-from p [] h = refl
all-from p (z ∷ zs) h = and_from (p z) (list_all p zs) (h z (inl refl)) (all-from p zs (λ x s. h x (inr s)))

-- the last element of a list stands in it, or is what was given for an empty one
pub last_or-StandsIn : {X : Type 0} (o : Option X) (xs : List X) (x : X) → last_or o xs ≡ Some x → (o ≡ Some x) ⊎ StandsIn x xs
last_or-StandsIn o [] x h = inl h
last_or-StandsIn o (y ∷ ys) x h = elim (last_or-StandsIn (Some y) ys x h) [ inl e ↦ inr (inl (cc e)) | inr s ↦ inr (inr s) ]

-- an element that is got from a place stands in the list
pub slice_get-StandsIn : {X : Type 0} (xs : List X) (i : ℕ) (x : X) → slice_get xs i ≡ Some x → StandsIn x xs
slice_get-StandsIn [] i x h = absurd (cc h)
slice_get-StandsIn (y ∷ ys) zero x h = inl (cc h)
slice_get-StandsIn (y ∷ ys) (suc i) x h = inr (slice_get-StandsIn ys i x h)

-- what stands in a list of numbers is found among them
pub StandsIn-among : (xs : List ℕ) (n : ℕ) → StandsIn n xs → is_among xs n ≡ true
StandsIn-among [] n s = absurd s
StandsIn-among (x ∷ xs) n (inl e) = ap (λ v. v || is_among xs n) (eq-eqb x n (sym e))
StandsIn-among (x ∷ xs) n (inr s) = go (x == n) (StandsIn-among xs n s)
  where
    go : (b : Bool) → is_among xs n ≡ true → (b || is_among xs n) ≡ true
    go true h = refl
    go false h = h

-- an element that passes a test is one of those that do
pub any-from : {X : Type 0} (p : X → Bool) (xs : List X) (x : X) → StandsIn x xs → p x ≡ true → list_any p xs ≡ true
any-from p [] x s h = absurd s
any-from p (y ∷ ys) x (inl e) h = or_left (p y) (list_any p ys) (subst (λ z. p z ≡ true) e h)
any-from p (y ∷ ys) x (inr s) h = or_right (p y) (list_any p ys) (any-from p ys x s h)

-- the element whose list a joined one comes from
pub record IsPiece {X Y : Type 0} (f : X → List Y) (xs : List X) (y : Y) : Type 0 where
  pub source : X
  pub among : StandsIn source xs
  pub within : StandsIn y (f source)

pub flat_map-StandsIn : {X Y : Type 0} (f : X → List Y) (xs : List X) (y : Y) → StandsIn y (flat_map f xs) → IsPiece f xs y
flat_map-StandsIn f [] y s = absurd s
flat_map-StandsIn f (x ∷ xs) y s = elim (StandsIn-append (f x) (flat_map f xs) y s) [
  | inl r ↦ record { source = x; among = inl refl; within = r }
  | inr r ↦ (let i : IsPiece f xs y = flat_map-StandsIn f xs y r in record { source = i.source; among = inr i.among; within = i.within })
]

-- what stands in the first elements of a list, or in the others, stands in it
pub take-StandsIn : {X : Type 0} (k : ℕ) (xs : List X) (x : X) → StandsIn x (take k xs) → StandsIn x xs
take-StandsIn zero xs x s = absurd s
take-StandsIn (suc k) [] x s = absurd s
take-StandsIn (suc k) (y ∷ ys) x (inl e) = inl e
take-StandsIn (suc k) (y ∷ ys) x (inr s) = inr (take-StandsIn k ys x s)

pub drop-StandsIn : {X : Type 0} (k : ℕ) (xs : List X) (x : X) → StandsIn x (drop k xs) → StandsIn x xs
drop-StandsIn zero xs x s = s
drop-StandsIn (suc k) [] x s = absurd s
drop-StandsIn (suc k) (y ∷ ys) x s = inr (drop-StandsIn k ys x s)

-- what stands in a range of numbers
pub StandsIn-range : (from count k : ℕ) → from ≤ k → k < from + count → StandsIn k (range_with_len from count)
StandsIn-range from zero k l h = absurd (omega (arith, l, h))
StandsIn-range from (suc n) k l h = elim (eq-or-lt_of_le l) [
  | inl e ↦ inl (sym e)
  | inr m ↦ inr (StandsIn-range (from + 1) n k (omega (arith, m)) (omega (arith, h)))
]

pub range-StandsIn : (from count k : ℕ) → StandsIn k (range_with_len from count) → (from ≤ k) × (k < from + count)
range-StandsIn from zero k s = absurd s
range-StandsIn from (suc n) k (inl e) = (omega (arith, e), omega (arith, e))
range-StandsIn from (suc n) k (inr s) = let r : (from + 1 ≤ k) × (k < from + 1 + n) = range-StandsIn (from + 1) n k s in (omega (arith, r.0), omega (arith, r.1))

-- an element that passes a test that some element passes
pub record Passing {X : Type 0} (p : X → Bool) (xs : List X) : Type 0 where
  pub one : X
  pub there : StandsIn one xs
  pub passes : p one ≡ true

pub any-Passing : {X : Type 0} (p : X → Bool) (xs : List X) → list_any p xs ≡ true → Passing p xs
any-Passing p [] h = absurd (cc h)
any-Passing {X = X} p (x ∷ xs) h = go (p x) refl h (λ k. any-Passing p xs k)
  where
    later : Passing p xs → Passing p (x ∷ xs)
    later k = record { one = k.one; there = inr k.there; passes = k.passes }

    go : (b : Bool) → p x ≡ b → (b || list_any p xs) ≡ true → (list_any p xs ≡ true → Passing p xs) → Passing p (x ∷ xs)
    go true e k ih = record { one = x; there = inl refl; passes = e }
    go false e k ih = later (ih k)
