-- Lists that ascend, and what stays of them.
use Rattle.std.proofs.Common.{◌≡◌, ℕ, zero, suc, ◌+◌, ◌-◌, ◌≤◌, Bool, true, false, ◌&&◌, cond, List, [], ◌∷◌, ◌++◌, length, map, filter, refl, sym, ◌∙◌, ap, arith, add-zero}
use Rattle.std.specs.Prelude.{nat_lt, nat_le}
use Rattle.std.specs.List.{list_all, range_with_len}
use Rattle.std.specs.Ordering.{is_lt, nat_cmp}
use Rattle.std.specs.declared.cmp.Ordering.{Ordering}
use Rattle.std.specs.Cmp.Lexicographic.{slice_cmp}
use Rattle.std.proofs.lemmas.Cmp.{nat_list_cmp_total}
use Rattle.std.proofs.lemmas.Bool.Decides.{nat_tests}
use Rattle.std.proofs.lemmas.List.Elements.{filter-append}
use Rattle.std.proofs.lemmas.List.{append-nil}
use Rattle.std.specs.declared.cmp.Ordering.TheVariants.{Less, Equal, Greater}
use Rattle.tcs_terms.specs.Order.{ascends_by, ascends, name_before}
use Rattle.tcs_terms.proofs.BoolLaws.{both, left_of, right_of}

less_is : (o : Ordering) → is_lt o ≡ true → o ≡ Less
less_is Less h = refl
less_is Equal h = absurd cc
less_is Greater h = absurd cc

pub names_skip : (x y z : List ℕ) → name_before x y ≡ true → name_before y z ≡ true → name_before x z ≡ true
names_skip x y z p q = ap is_lt (nat_list_cmp_total.trans x y z (less_is (slice_cmp nat_cmp x y) p) (less_is (slice_cmp nat_cmp y z) q))

pub numbers_skip : (x y z : ℕ) → nat_lt x y ≡ true → nat_lt y z ≡ true → nat_lt x z ≡ true
numbers_skip x y z p q = grind (arith, nat_tests)

-- what ascends still does without its second element
skipped : {X : Type 0} (before : X → X → Bool) → ((x y z : X) → before x y ≡ true → before y z ≡ true → before x z ≡ true) → (x y : X) (ys : List X)
    → ascends_by before (x ∷ y ∷ ys) ≡ true → ascends_by before (x ∷ ys) ≡ true
skipped before skips x y [] h = refl
skipped before skips x y (z ∷ zs) h =
    let first = left_of (before x y) (ascends_by before (y ∷ z ∷ zs)) h in
    let others = right_of (before x y) (ascends_by before (y ∷ z ∷ zs)) h in
    both (before x z) (ascends_by before (z ∷ zs)) (skips x y z first (left_of (before y z) (ascends_by before (z ∷ zs)) others)) (right_of (before y z) (ascends_by before (z ∷ zs)) others)

-- what is left of a list that ascends, by a test of its elements' origins
kept_after : {X Y : Type 0} (before : Y → Y → Bool) → ((x y z : Y) → before x y ≡ true → before y z ≡ true → before x z ≡ true) → (key : X → Y) (test : X → Bool) (y : Y) (xs : List X)
    → ascends_by before (y ∷ map key xs) ≡ true → ascends_by before (y ∷ map key (filter test xs)) ≡ true
kept_after before skips key test y [] h = refl
kept_after before skips key test y (x ∷ xs) h =
    go (test x) (kept_after before skips key test (key x) xs (right_of (before y (key x)) (ascends_by before (key x ∷ map key xs)) h))
    (kept_after before skips key test y xs (skipped before skips y (key x) (map key xs) h)) where
      go : (b : Bool) → ascends_by before (key x ∷ map key (filter test xs)) ≡ true → ascends_by before (y ∷ map key (filter test xs)) ≡ true
          → ascends_by before (y ∷ map key (cond b (x ∷ filter test xs) (filter test xs))) ≡ true
      go true taken left = both (before y (key x)) (ascends_by before (key x ∷ map key (filter test xs))) (left_of (before y (key x)) (ascends_by before (key x ∷ map key xs)) h) taken
      go false taken left = left

rest_ascends : {Y : Type 0} (before : Y → Y → Bool) (y : Y) (ys : List Y) → ascends_by before (y ∷ ys) ≡ true → ascends_by before ys ≡ true
rest_ascends before y [] h = refl
rest_ascends before y (z ∷ zs) h = right_of (before y z) (ascends_by before (z ∷ zs)) h

pub kept_ascends : {X Y : Type 0} (before : Y → Y → Bool) → ((x y z : Y) → before x y ≡ true → before y z ≡ true → before x z ≡ true) → (key : X → Y) (test : X → Bool) (xs : List X)
    → ascends_by before (map key xs) ≡ true → ascends_by before (map key (filter test xs)) ≡ true
kept_ascends before skips key test [] h = refl
kept_ascends before skips key test (x ∷ xs) h =
    go (test x) (kept_after before skips key test (key x) xs h) (kept_ascends before skips key test xs (rest_ascends before (key x) (map key xs) h)) where
      go : (b : Bool) → ascends_by before (key x ∷ map key (filter test xs)) ≡ true → ascends_by before (map key (filter test xs)) ≡ true
          → ascends_by before (map key (cond b (x ∷ filter test xs) (filter test xs))) ≡ true
      go true taken left = taken
      go false taken left = left

-- what passes a test still does where elements are left out
pub kept_pass : {X : Type 0} (p test : X → Bool) (xs : List X) → list_all p xs ≡ true → list_all p (filter test xs) ≡ true
kept_pass p test [] h = refl
kept_pass p test (x ∷ xs) h = go (test x) (left_of (p x) (list_all p xs) h) (kept_pass p test xs (right_of (p x) (list_all p xs) h)) where
  go : (b : Bool) → p x ≡ true → list_all p (filter test xs) ≡ true → list_all p (cond b (x ∷ filter test xs) (filter test xs)) ≡ true
  go true first rest = both (p x) (list_all p (filter test xs)) first rest
  go false first rest = rest

pub kept_few : {X : Type 0} (test : X → Bool) (xs : List X) → length (filter test xs) ≤ length xs
kept_few test [] = omega arith
kept_few test (x ∷ xs) = go (test x) (kept_few test xs) where
  go : (b : Bool) → length (filter test xs) ≤ length xs → length (cond b (x ∷ filter test xs) (filter test xs)) ≤ length (x ∷ xs)
  go true h = omega arith
  go false h = omega arith

-- ---- numbers from one on

range_push : (a n : ℕ) → range_with_len a (suc n) ≡ range_with_len a n ++ (a + n) ∷ []
range_push a zero = rw add-zero refl
range_push a (suc n) = let k : a + suc n ≡ a + 1 + n = omega arith in rw (k) (ap (λ (xs : List ℕ). a ∷ xs) (range_push (a + 1) n))

grown : (last : ℕ) → 1 ≤ last → range_with_len 1 (last + 1 - 1) ≡ range_with_len 1 (last - 1) ++ last ∷ []
grown last some =
    let k : last + 1 - 1 ≡ suc (last - 1) = omega arith in
    let at : 1 + (last - 1) ≡ last = omega arith in
    rw k (range_push 1 (last - 1) ∙ ap (λ (n : ℕ). range_with_len 1 (last - 1) ++ n ∷ []) at)

pub range_grows : (last : ℕ) (old new : List ℕ) → 1 ≤ last → old ≡ range_with_len 1 (last - 1) → new ≡ old ++ last ∷ [] → new ≡ range_with_len 1 (last + 1 - 1)
range_grows last old new some p q = q ∙ ap (λ (xs : List ℕ). xs ++ last ∷ []) p ∙ sym (grown last some)

filter_one : (p : ℕ → Bool) (n : ℕ) (b : Bool) → p n ≡ b → filter p (n ∷ []) ≡ cond b (n ∷ []) []
filter_one p n b e = rw e refl

pub filter_takes : (p : ℕ → Bool) (last : ℕ) (old new : List ℕ) → 1 ≤ last → p last ≡ true → old ≡ filter p (range_with_len 1 (last - 1)) → new ≡ old ++ last ∷ []
    → new ≡ filter p (range_with_len 1 (last + 1 - 1))
filter_takes p last old new some e h q =
    q ∙ ap (λ (xs : List ℕ). xs ++ last ∷ []) h ∙ sym (ap (filter p) (grown last some) ∙ filter-append p (range_with_len 1 (last - 1)) (last ∷ [])
    ∙ ap (λ (xs : List ℕ). filter p (range_with_len 1 (last - 1)) ++ xs) (filter_one p last true e))

pub filter_leaves : (p : ℕ → Bool) (last : ℕ) (old new : List ℕ) → 1 ≤ last → p last ≡ false → old ≡ filter p (range_with_len 1 (last - 1)) → new ≡ old
    → new ≡ filter p (range_with_len 1 (last + 1 - 1))
filter_leaves p last old new some e h q =
    q ∙ h ∙ sym (ap (filter p) (grown last some) ∙ filter-append p (range_with_len 1 (last - 1)) (last ∷ [])
    ∙ ap (λ (xs : List ℕ). filter p (range_with_len 1 (last - 1)) ++ xs) (filter_one p last false e) ∙ append-nil (filter p (range_with_len 1 (last - 1))))

pub range_ascends : (a n : ℕ) → ascends (range_with_len a n) ≡ true
range_ascends a zero = refl
range_ascends a (suc zero) = refl
range_ascends a (suc (suc n)) = both (nat_lt a (a + 1)) (ascends (range_with_len (a + 1) (suc n))) (grind (arith, nat_tests)) (range_ascends (a + 1) (suc n))

pub range_within : (a n low high : ℕ) → low ≤ a → a + n ≤ high + 1 → list_all (λ k. nat_le low k && nat_le k high) (range_with_len a n) ≡ true
range_within a zero low high p q = refl
range_within a (suc n) low high p q =
    both (nat_le low a && nat_le a high) (list_all (λ k. nat_le low k && nat_le k high) (range_with_len (a + 1) n)) (grind (arith, nat_tests)) (range_within (a + 1) n low high (omega arith) (omega arith))
