-- Where names strictly ascend, each stands once: a search for a name finds the one element that has it.
use Rattle.std.proofs.Common.{◌≡◌, ℕ, Bool, true, false, cond, List, [], ◌∷◌, map, find, Some, inl, inr, nat_eq, eq-eqb, sym, ◌∙◌, ap, subst, refl}
use Rattle.std.specs.Cmp.Lexicographic.{pointwise, slice_cmp, same_text, nat_list_cmp_total}
use Rattle.std.specs.Ordering.{is_lt, nat_cmp, ordering_reverse}
use Rattle.std.specs.declared.cmp.Ordering.{Ordering}
use Rattle.std.specs.declared.cmp.Ordering.TheVariants.{Less, Equal, Greater}
use Rattle.tcs_terms.proofs.BoolLaws.{both, left_of, right_of}
use Rattle.tcs_terms.proofs.OrderLaws.{names_skip}
use Rattle.tcs_terms.specs.Order.{name_before, names_ascend}
use Rattle.tcs_terms.specs.Payloads.{same_name}
use Rattle.protocol.specs.Invariant.Time.{StandsIn}

pub same_name-eq : (a b : List ℕ) → same_name a b ≡ true → a ≡ b
same_name-eq a b h = same_text a b (sym h)

pub same_name-self : (a : List ℕ) → same_name a a ≡ true
same_name-self [] = refl
same_name-self (n ∷ ns) = both (nat_eq n n) (pointwise nat_eq ns ns) (eq-eqb n n refl) (same_name-self ns)

-- no name stands before itself
not_before-self : (a : List ℕ) → name_before a a ≡ true → ⊥
not_before-self a h = go (slice_cmp nat_cmp a a) h (nat_list_cmp_total.antisymm a a)
  where
    go : (o : Ordering) → is_lt o ≡ true → o ≡ ordering_reverse o → ⊥
    go Less k e = cc e
    go Equal k e = cc k
    go Greater k e = cc k

-- the first of names that ascend stands before the others
first_before : {X : Type 0} (key : X → List ℕ) (x : X) (xs : List X) (y : X) → names_ascend (map key (x ∷ xs)) ≡ true → StandsIn y xs → name_before (key x) (key y) ≡ true
first_before key x [] y h s = absurd s
first_before key x (z ∷ zs) y h (inl e) = subst (λ w. name_before (key x) (key w) ≡ true) (sym e) (left_of (name_before (key x) (key z)) (names_ascend (map key (z ∷ zs))) h)
first_before key x (z ∷ zs) y h (inr s) =
    names_skip (key x) (key z) (key y) (left_of (name_before (key x) (key z)) (names_ascend (map key (z ∷ zs))) h)
    (first_before key z zs y (right_of (name_before (key x) (key z)) (names_ascend (map key (z ∷ zs))) h) s)

-- what ascends still does without its first
rest_ascends : {X : Type 0} (key : X → List ℕ) (x : X) (xs : List X) → names_ascend (map key (x ∷ xs)) ≡ true → names_ascend (map key xs) ≡ true
rest_ascends key x [] h = refl
rest_ascends key x (y ∷ ys) h = right_of (name_before (key x) (key y)) (names_ascend (map key (y ∷ ys))) h

-- a search for the name of an element finds it
pub find-once : {X : Type 0} (key : X → List ℕ) (xs : List X) (x : X) → names_ascend (map key xs) ≡ true → StandsIn x xs → find (λ y. same_name (key y) (key x)) xs ≡ Some x
find-once key [] x h s = absurd s
find-once key (z ∷ zs) x h (inl e) =
    ap (λ b. cond b (Some z) (find (λ y. same_name (key y) (key x)) zs)) (subst (λ w. same_name (key z) (key w) ≡ true) (sym e) (same_name-self (key z))) ∙ ap (λ w. Some w) (sym e)
find-once {X = X} key (z ∷ zs) x h (inr s) = go (same_name (key z) (key x)) refl (find-once key zs x (rest_ascends key z zs h) s)
  where
    go : (b : Bool) → same_name (key z) (key x) ≡ b → find (λ y. same_name (key y) (key x)) zs ≡ Some x → find (λ y. same_name (key y) (key x)) (z ∷ zs) ≡ Some x
    go true e ih = absurd (not_before-self (key x) (subst (λ n. name_before n (key x) ≡ true) (same_name-eq (key z) (key x) e) (first_before key z zs x h s)))
    go false e ih = ap (λ b. cond b (Some z) (find (λ y. same_name (key y) (key x)) zs)) e ∙ ih
