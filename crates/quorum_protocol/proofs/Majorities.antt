-- Two majorities of the same acceptors share one of them.
use Rattle.std.proofs.Common.{◌≡◌, refl, ℕ, zero, suc, ◌+◌, ◌<◌, ◌≤◌, ◌==◌, ◌||◌, Bool, true, false, List, [], ◌∷◌, length, inl, inr, arith, eqb-true}
use Rattle.std.proofs.lemmas.Bool.Decides.{nat_tests}
use Rattle.tcs_terms.specs.Places.{is_among}
use Rattle.quorum_protocol.specs.Ballots.{is_majority}
use Rattle.quorum_protocol.specs.Theorem.{StandsIn}
use Rattle.quorum_protocol.proofs.Standing.{Distinct, Within, among_stands}

one_if : Bool → ℕ
one_if true = 1
one_if false = 0

-- how many of the numbers from 1 to the last are among these
counted : List ℕ → ℕ → ℕ
counted xs zero = 0
counted xs (suc n) = counted xs n + one_if (is_among xs (suc n))

or_grows : (a b : Bool) → one_if b ≤ one_if (a || b)
unfolding one_if
or_grows true true = omega arith
or_grows true false = omega arith
or_grows false b = omega arith

counted_grows : (x : ℕ) (xs : List ℕ) (n : ℕ) → counted xs n ≤ counted (x ∷ xs) n
unfolding counted
counted_grows x xs zero = omega arith
counted_grows x xs (suc n) = omega (arith, counted_grows x xs n, or_grows (x == suc n) (is_among xs (suc n)))

below : (x n : ℕ) → (x == suc n) ≡ false → x ≤ suc n → x ≤ n
below x n h k = grind (arith, nat_tests)

-- one step of it
step_more : (x : ℕ) (xs : List ℕ) (n old new : ℕ) (a b : Bool) → (StandsIn x xs → ⊥) → (x == suc n) ≡ a → is_among xs (suc n) ≡ b → x ≤ suc n
    → (x ≤ n → old + 1 ≤ new) → old ≤ new → (old + one_if b) + 1 ≤ new + one_if (a || b)
unfolding one_if
step_more x xs n old new true true f p q h ih g = absurd (f (rw (eqb-true x (suc n) p) (among_stands xs (suc n) q)))
step_more x xs n old new true false f p q h ih g = omega arith
step_more x xs n old new false b f p q h ih g = let k : old + 1 ≤ new = ih (below x n p h) in omega arith

-- one that is not among them counts once more
counted_more : (x : ℕ) (xs : List ℕ) (n : ℕ) → (StandsIn x xs → ⊥) → 1 ≤ x → x ≤ n → counted xs n + 1 ≤ counted (x ∷ xs) n
unfolding counted
counted_more x xs zero f l h = absurd (omega arith)
counted_more x xs (suc n) f l h =
    step_more x xs n (counted xs n) (counted (x ∷ xs) n) (x == suc n) (is_among xs (suc n)) f refl refl h (counted_more x xs n f l) (counted_grows x xs n)

-- distinct numbers from 1 to the last are all counted
all_counted : (xs : List ℕ) (n : ℕ) → Distinct xs → Within n xs → length xs ≤ counted xs n
all_counted [] n d w = omega arith
all_counted (x ∷ xs) n d w =
    let h = w x (inl refl) in
    omega (arith, counted_more x xs n d.0 h.0 h.1, all_counted xs n d.1 (λ y s. w y (inr s)))

-- a number that is among both
pub record Common (xs ys : List ℕ) : Type 0 where
  pub one : ℕ
  pub left : StandsIn one xs
  pub right : StandsIn one ys

step_share : (xs ys : List ℕ) (n c d : ℕ) (a b : Bool) → is_among xs (suc n) ≡ a → is_among ys (suc n) ≡ b → suc n < (c + one_if a) + (d + one_if b)
    → (n < c + d → Common xs ys) → Common xs ys
unfolding one_if
step_share xs ys n c d true true p q h ih = record { one = suc n; left = among_stands xs (suc n) p; right = among_stands ys (suc n) q }
step_share xs ys n c d true false p q h ih = ih (omega arith)
step_share xs ys n c d false true p q h ih = ih (omega arith)
step_share xs ys n c d false false p q h ih = ih (omega arith)

share : (xs ys : List ℕ) (n : ℕ) → n < counted xs n + counted ys n → Common xs ys
unfolding counted
share xs ys zero h = absurd (omega arith)
share xs ys (suc n) h = step_share xs ys n (counted xs n) (counted ys n) (is_among xs (suc n)) (is_among ys (suc n)) refl refl h (share xs ys n)

half : (n k : ℕ) → is_majority n k ≡ true → n < k + k
half n k h = grind (arith, nat_tests)

pub majorities_meet : (xs ys : List ℕ) (n : ℕ) → Distinct xs → Distinct ys → Within n xs → Within n ys
    → is_majority n (length xs) ≡ true → is_majority n (length ys) ≡ true → Common xs ys
majorities_meet xs ys n d e v w p q =
    share xs ys n (omega (arith, half n (length xs) p, half n (length ys) q, all_counted xs n d v, all_counted ys n e w))
