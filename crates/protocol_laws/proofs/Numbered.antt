-- Lists whose elements are numbered in order: no number stands twice or outside its range, and each stands at its place.
use Rattle.std.proofs.Common.{◌≡◌, ℕ, zero, suc, ◌+◌, ◌-◌, ◌<◌, ◌≤◌, List, [], ◌∷◌, map, slice_index, inl, inr, sym, ◌∙◌, ap, arith, ◌⊎◌, refl}
use Rattle.std.specs.List.{range_with_len}
use Rattle.protocol.specs.Invariant.Time.{StandsIn}
use Rattle.std.proofs.Math.Nat.{eq-or-lt_of_le}

-- these many elements, numbered from that number on
abbrev pub AreNumbered : {X : Type 0} → (X → ℕ) → List X → ℕ → ℕ → Type 0
AreNumbered f xs from count = map f xs ≡ range_with_len from count

-- the rest of them, after the first
record IsSplit {X : Type 0} (f : X → ℕ) (x : X) (xs : List X) (from : ℕ) : Type 0 where
  head : f x ≡ from
  left : ℕ
  tail : AreNumbered f xs (from + 1) left

split : {X : Type 0} (f : X → ℕ) (x : X) (xs : List X) (from count : ℕ) → AreNumbered f (x ∷ xs) from count → IsSplit f x xs from
split f x xs from zero h = absurd (cc h)
split f x xs from (suc n) h = record { head = cc h; left = n; tail = cc h }

-- no number is below the first
pub numbered-above : {X : Type 0} (f : X → ℕ) (xs : List X) (from count : ℕ) (x : X) → AreNumbered f xs from count → StandsIn x xs → from ≤ f x
numbered-above f [] from count x h s = absurd s
numbered-above f (y ∷ ys) from count x h (inl e) =
    let k : IsSplit f y ys from = split f y ys from count h in
    let m : f x ≡ from = ap f e ∙ k.head in omega (arith, m)
numbered-above f (y ∷ ys) from count x h (inr r) =
    let k : IsSplit f y ys from = split f y ys from count h in
    omega (arith, numbered-above f ys (from + 1) k.left x k.tail r)

-- two of one number are one
pub numbered-one : {X : Type 0} (f : X → ℕ) (xs : List X) (from count : ℕ) (a b : X) → AreNumbered f xs from count → StandsIn a xs → StandsIn b xs → f a ≡ f b → a ≡ b
numbered-one f [] from count a b h p q e = absurd p
numbered-one f (y ∷ ys) from count a b h (inl p) (inl q) e = p ∙ sym q
numbered-one f (y ∷ ys) from count a b h (inl p) (inr q) e =
    let k : IsSplit f y ys from = split f y ys from count h in
    let m : f a ≡ from = ap f p ∙ k.head in
    absurd (omega (arith, m, e, numbered-above f ys (from + 1) k.left b k.tail q))
numbered-one f (y ∷ ys) from count a b h (inr p) (inl q) e =
    let k : IsSplit f y ys from = split f y ys from count h in
    let m : f b ≡ from = ap f q ∙ k.head in
    absurd (omega (arith, m, e, numbered-above f ys (from + 1) k.left a k.tail p))
numbered-one f (y ∷ ys) from count a b h (inr p) (inr q) e =
    let k : IsSplit f y ys from = split f y ys from count h in
    numbered-one f ys (from + 1) k.left a b k.tail p q e

-- what each has stands in a list at the place of its number
pub numbered-index : {X : Type 0} (f g : X → ℕ) (xs : List X) (from count : ℕ) (x : X) → AreNumbered f xs from count → StandsIn x xs → slice_index (map g xs) (f x - from) ≡ g x
numbered-index f g [] from count x h s = absurd s
numbered-index f g (y ∷ ys) from count x h (inl e) =
    let k : IsSplit f y ys from = split f y ys from count h in
    let m : f x ≡ from = ap f e ∙ k.head in
    let z : f x - from ≡ 0 = omega (arith, m) in
    ap (λ i. slice_index (g y ∷ map g ys) i) z ∙ ap g (sym e)
numbered-index f g (y ∷ ys) from count x h (inr r) =
    let k : IsSplit f y ys from = split f y ys from count h in
    let l : from + 1 ≤ f x = numbered-above f ys (from + 1) k.left x k.tail r in
    let z : f x - from ≡ suc (f x - (from + 1)) = omega (arith, l) in
    ap (λ i. slice_index (g y ∷ map g ys) i) z ∙ numbered-index f g ys (from + 1) k.left x k.tail r

-- and none is beyond the last
pub numbered-below : {X : Type 0} (f : X → ℕ) (xs : List X) (from count : ℕ) (x : X) → AreNumbered f xs from count → StandsIn x xs → f x < from + count
numbered-below f [] from count x h s = absurd s
numbered-below f (y ∷ ys) from zero x h s = absurd (cc h)
numbered-below f (y ∷ ys) from (suc n) x h (inl e) = let k : f y ≡ from = cc h in let m : f x ≡ from = ap f e ∙ k in omega (arith, m)
numbered-below f (y ∷ ys) from (suc n) x h (inr s) = omega (arith, numbered-below f ys (from + 1) n x (cc h) s)

-- each number has its element
pub numbered_there : {X : Type 0} (f : X → ℕ) (xs : List X) (from count k : ℕ) → AreNumbered f xs from count → from ≤ k → k < from + count → (x : X) × StandsIn x xs × (f x ≡ k)
numbered_there f [] from zero k h low high = absurd (omega (arith, low, high))
numbered_there f [] from (suc n) k h low high = absurd (cc h)
numbered_there f (y ∷ ys) from zero k h low high = absurd (omega (arith, low, high))
numbered_there {X} f (y ∷ ys) from (suc n) k h low high = go (eq-or-lt_of_le low) (λ l. numbered_there f ys (from + 1) n k (cc h) l (omega (arith, high)))
  where
    go : (from ≡ k) ⊎ (from < k) → (from + 1 ≤ k → (x : X) × StandsIn x ys × (f x ≡ k)) → (x : X) × StandsIn x (y ∷ ys) × (f x ≡ k)
    go (inl e) ih = let is : f y ≡ from = cc h in (y, inl refl, is ∙ e)
    go (inr l) ih = let r = ih (omega (arith, l)) in (r.0, inr r.1, r.2)
