-- Lists in which each element stands in a relation to all later ones.
use Rattle.std.proofs.Common.{◌≡◌, ℕ, ◌<◌, true, ltb, List, [], ◌∷◌, ◌++◌, map, inl, inr, refl, arith}
use Rattle.std.proofs.lemmas.Bool.{ltb-true, lt-ltb}
use Rattle.tcs_terms.specs.Order.{ascends}
use Rattle.tcs_terms.proofs.BoolLaws.{both, left_of, right_of}
use Rattle.protocol.specs.Invariant.Time.{StandsIn}
use Rattle.protocol.proofs.Lists.{StandsIn-append}

-- each element of the first list is related to each of the second
abbrev pub Across : {X : Type 0} → (X → X → Type 0) → List X → List X → Type 0
Across {X} R xs ys = (x y : X) → StandsIn x xs → StandsIn y ys → R x y

-- each element is related to each later one
abbrev pub Chain : {X : Type 0} → (X → X → Type 0) → List X → Type 0
Chain R [] = Unit {0}
Chain {X} R (x ∷ xs) = ((y : X) → StandsIn y xs → R x y) × Chain R xs

pub stands_left : {X : Type 0} (x : X) (xs ys : List X) → StandsIn x xs → StandsIn x (xs ++ ys)
stands_left x [] ys s = absurd s
stands_left x (z ∷ zs) ys (inl e) = inl e
stands_left x (z ∷ zs) ys (inr s) = inr (stands_left x zs ys s)

pub stands_right : {X : Type 0} (x : X) (xs ys : List X) → StandsIn x ys → StandsIn x (xs ++ ys)
stands_right x [] ys s = s
stands_right x (z ∷ zs) ys s = inr (stands_right x zs ys s)

-- a chain cut in two
pub record Cut {X : Type 0} (R : X → X → Type 0) (xs ys : List X) : Type 0 where
  pub first : Chain R xs
  pub second : Chain R ys
  pub across : Across R xs ys

pub cut : {X : Type 0} (R : X → X → Type 0) (xs ys : List X) → Chain R (xs ++ ys) → Cut R xs ys
cut R [] ys chain = record { first = tt; second = chain; across = λ x y s t. absurd s }
cut {X = X} R (z ∷ zs) ys chain =
    let rest = cut R zs ys chain.1 in
    record {
      first = (λ y s. chain.0 y (stands_left y zs ys s), rest.first);
      second = rest.second;
      across = go (λ y t. chain.0 y (stands_right y zs ys t)) rest.across;
    } where
      go : ((y : X) → StandsIn y ys → R z y) → Across R zs ys → Across R (z ∷ zs) ys
      go head tail x y (inl e) t = rw e (head y t)
      go head tail x y (inr s) t = tail x y s t

pub joined : {X : Type 0} (R : X → X → Type 0) (xs ys : List X) → Cut R xs ys → Chain R (xs ++ ys)
joined R [] ys c = c.second
joined R (z ∷ zs) ys c = (
  λ y s. elim (StandsIn-append zs ys y s) [ inl t ↦ c.first.0 y t | inr t ↦ c.across z y (inl refl) t ],
  joined R zs ys (record { first = c.first.1; second = c.second; across = λ x y s t. c.across x y (inr s) t }),
)

-- elements in the order of a number
abbrev pub Rising : {X : Type 0} → (X → ℕ) → X → X → Type 0
Rising key x y = key x < key y

above_all : {X : Type 0} (key : X → ℕ) (n : ℕ) (xs : List X) → ascends (n ∷ map key xs) ≡ true → (x : X) → StandsIn x xs → n < key x
above_all key n [] up x s = absurd s
above_all key n (y ∷ ys) up x (inl e) = rw e (ltb-true n (key y) (left_of (ltb n (key y)) (ascends (key y ∷ map key ys)) up))
above_all key n (y ∷ ys) up x (inr s) =
    let later = above_all key (key y) ys (right_of (ltb n (key y)) (ascends (key y ∷ map key ys)) up) x s in
    omega (arith, ltb-true n (key y) (left_of (ltb n (key y)) (ascends (key y ∷ map key ys)) up))

rest_ascends : (n : ℕ) (ns : List ℕ) → ascends (n ∷ ns) ≡ true → ascends ns ≡ true
rest_ascends n [] up = refl
rest_ascends n (m ∷ ms) up = right_of (ltb n m) (ascends (m ∷ ms)) up

with_first : {X : Type 0} (key : X → ℕ) (n : ℕ) (xs : List X) → ((x : X) → StandsIn x xs → n < key x) → ascends (map key xs) ≡ true → ascends (n ∷ map key xs) ≡ true
with_first key n [] above up = refl
with_first key n (y ∷ ys) above up = both (ltb n (key y)) (ascends (key y ∷ map key ys)) (lt-ltb n (key y) (above y (inl refl))) up

pub rises_along : {X : Type 0} (key : X → ℕ) (xs : List X) → ascends (map key xs) ≡ true → Chain (Rising key) xs
rises_along key [] up = tt
rises_along key (x ∷ xs) up = (above_all key (key x) xs up, rises_along key xs (rest_ascends (key x) (map key xs) up))

pub ascends_along : {X : Type 0} (key : X → ℕ) (xs : List X) → Chain (Rising key) xs → ascends (map key xs) ≡ true
ascends_along key [] chain = refl
ascends_along key (x ∷ xs) chain = with_first key (key x) xs chain.0 (ascends_along key xs chain.1)
