-- Two names are one, or one of them stands before the other.
use Rattle.std.proofs.Common.{◌≡◌, ℕ, Bool, true, false, List, [], ◌∷◌, refl, arith}
use Rattle.std.specs.Prelude.{nat_lt, nat_eq}
use Rattle.std.proofs.lemmas.Bool.Decides.{nat_tests}
use Rattle.tcs_terms.specs.Order.{name_before}
use Rattle.tcs_terms.specs.Payloads.{same_name}

pub same_itself : (a : List ℕ) → same_name a a ≡ true
same_itself [] = refl
same_itself (x ∷ xs) = let e : nat_eq x x ≡ true = grind (arith, nat_tests) in rw e (same_itself xs)

-- the second stands before the first where the first does not stand before it and is another
pub otherwise_after : (a b : List ℕ) → name_before a b ≡ false → same_name a b ≡ false → name_before b a ≡ true
otherwise_after [] [] before same = absurd cc
otherwise_after [] (y ∷ ys) before same = absurd cc
otherwise_after (x ∷ xs) [] before same = refl
otherwise_after (x ∷ xs) (y ∷ ys) before same = go (nat_lt x y) (nat_eq x y) refl refl (otherwise_after xs ys)
  where
    go : (l e : Bool) → nat_lt x y ≡ l → nat_eq x y ≡ e → (name_before xs ys ≡ false → same_name xs ys ≡ false → name_before ys xs ≡ true) → name_before (y ∷ ys) (x ∷ xs) ≡ true
    go true e is eq rest = absurd (let h = rw is at before in cc)
    go false true is eq rest =
        let less : nat_lt y x ≡ false = grind (arith, nat_tests) in
        let one : nat_eq y x ≡ true = grind (arith, nat_tests) in
        let b = rw (is, eq) at before in
        let s = rw eq at same in
        rw (less, one) (rest b s)
    go false false is eq rest = let less : nat_lt y x ≡ true = grind (arith, nat_tests) in rw less refl
