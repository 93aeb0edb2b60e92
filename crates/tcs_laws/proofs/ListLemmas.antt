-- Tests of lists and of what a filter keeps.
use Rattle.std.proofs.Common.{◌≡◌, ℕ, ◌+◌, ◌<◌, ◌≤◌, zero, suc, Bool, true, false, ◌&&◌, ◌||◌, cond, List, [], ◌∷◌, refl, sym, ap, ◌∙◌, inl, inr, arith}
use Rattle.std.specs.Prelude.{filter, find, is_some, Some}
use Rattle.std.specs.List.{list_all, list_any, range_with_len}
use Rattle.std.proofs.lemmas.Bool.{cond_both, cond-false, false_from_ne_true, and_parts, and_from, or_cases, or_right, or_left, cases_lt, cases_Bool, or_parts, or_from}

-- two tests that hold together are one
pub same_truth : (a b : Bool) → (a ≡ true → b ≡ true) → (b ≡ true → a ≡ true) → a ≡ b
same_truth true true f g = refl
same_truth true false f g = sym (f refl)
same_truth false true f g = g refl
same_truth false false f g = refl

-- a filter that keeps all that the test finds loses nothing for a search
pub find-filter_same : {X : Type 0} (test keep : X → Bool) → ((x : X) → test x ≡ true → keep x ≡ true) → (xs : List X)
    → find test (filter keep xs) ≡ find test xs
find-filter_same test keep h [] = refl
find-filter_same test keep h (x ∷ xs) =
    cond_both (keep x) (x ∷ filter keep xs) (filter keep xs) (λ ys. find test ys ≡ cond (test x) (Some x) (find test xs))
    (λ _. ap (λ r. cond (test x) (Some x) r) (find-filter_same test keep h xs))
    (λ lost. find-filter_same test keep h xs
    ∙ sym (cond-false (test x) _ _ (false_from_ne_true (test x) (λ found. let kept = h x found in cc))))

-- tests that agree on what a filter keeps
pub any-filter_agree : {X : Type 0} (f g keep : X → Bool) → ((x : X) → keep x ≡ true → f x ≡ g x) → (xs : List X)
    → list_any f (filter keep xs) ≡ list_any g (filter keep xs)
any-filter_agree f g keep h [] = refl
any-filter_agree f g keep h (x ∷ xs) =
    cond_both (keep x) (x ∷ filter keep xs) (filter keep xs) (λ ys. list_any f ys ≡ list_any g ys)
    (λ kept. let here = h x kept in let later = any-filter_agree f g keep h xs in cc)
    (λ _. any-filter_agree f g keep h xs)

-- a test that fails on all that a filter keeps
pub any-filter_none : {X : Type 0} (f keep : X → Bool) → ((x : X) → keep x ≡ true → f x ≡ false) → (xs : List X)
    → list_any f (filter keep xs) ≡ false
any-filter_none f keep h [] = refl
any-filter_none f keep h (x ∷ xs) =
    cond_both (keep x) (x ∷ filter keep xs) (filter keep xs) (λ ys. list_any f ys ≡ false)
    (λ kept. let here = h x kept in let later = any-filter_none f keep h xs in rw here later)
    (λ _. any-filter_none f keep h xs)

-- what a filter keeps is among all
pub any-filter_less : {X : Type 0} (f keep : X → Bool) (xs : List X) → list_any f (filter keep xs) ≡ true → list_any f xs ≡ true
any-filter_less f keep [] h = h
any-filter_less f keep (x ∷ xs) h =
    cond_both (keep x) (x ∷ filter keep xs) (filter keep xs) (λ ys. list_any f ys ≡ true → list_any f (x ∷ xs) ≡ true)
    (λ _ there. elim (or_cases (f x) (list_any f (filter keep xs)) there)
    [ inl here ↦ or_left (f x) (list_any f xs) here | inr later ↦ or_right (f x) (list_any f xs) (any-filter_less f keep xs later) ])
    (λ _ later. or_right (f x) (list_any f xs) (any-filter_less f keep xs later)) h

-- a test that holds everywhere, or at each of two parts
pub all_hold : {X : Type 0} (f : X → Bool) → ((x : X) → f x ≡ true) → (xs : List X) → list_all f xs ≡ true
all_hold f h [] = refl
all_hold f h (x ∷ xs) = and_from (f x) (list_all f xs) (h x) (all_hold f h xs)

pub all_agree : {X : Type 0} (f g : X → Bool) → ((x : X) → f x ≡ g x) → (xs : List X) → list_all f xs ≡ list_all g xs
all_agree f g h [] = refl
all_agree f g h (x ∷ xs) = let here = h x in let later = all_agree f g h xs in cc

shuffled : (a b c d : Bool) → ((a && b) && (c && d)) ≡ ((a && c) && (b && d))
shuffled true true c d = refl
shuffled true false true d = refl
shuffled true false false d = refl
shuffled false b c d = refl

pub all_both : {X : Type 0} (f g : X → Bool) (xs : List X)
    → list_all (λ x. f x && g x) xs ≡ (list_all f xs && list_all g xs)
all_both f g [] = refl
all_both f g (x ∷ xs) =
    rw (all_both f g xs) (shuffled (f x) (g x) (list_all f xs) (list_all g xs))

-- each number of a range
pub all_range : (f : ℕ → Bool) (a n : ℕ) → list_all f (range_with_len a n) ≡ true → (k : ℕ) → a ≤ k → k < a + n → f k ≡ true
all_range f a zero h k low high = absurd (omega arith)
all_range f a (suc n) h k low high =
    let parts = and_parts (f a) (list_all f (range_with_len (a + 1) n)) h in
    elim (cases_lt a k) [
      | inl above ↦ all_range f (a + 1) n parts.1 k (omega arith) (omega arith)
      | inr here ↦ let same : k ≡ a = omega arith in rw same parts.0
    ]

-- a test that fails wherever another does
pub any_less : {X : Type 0} (f g : X → Bool) → ((x : X) → f x ≡ false → g x ≡ false) → (xs : List X)
    → list_any f xs ≡ false → list_any g xs ≡ false
any_less f g h [] none = refl
any_less f g h (x ∷ xs) none =
    let parts = or_parts (f x) (list_any f xs) none in
    or_from (g x) (list_any g xs) (h x parts.0) (any_less f g h xs parts.1)

-- two tests, and the element that passes the second fails the first
pub any_none_at : {X : Type 0} (f g : X → Bool) (b : Bool) → ((x : X) → g x ≡ true → f x ≡ b) → (xs : List X)
    → list_any f xs ≡ false → list_any g xs ≡ true → b ≡ false
any_none_at f g b h [] none some = cc
any_none_at f g b h (x ∷ xs) none some =
    let parts = or_parts (f x) (list_any f xs) none in
    elim (or_cases (g x) (list_any g xs) some) [
      | inl here ↦ sym (h x here) ∙ parts.0
      | inr later ↦ any_none_at f g b h xs parts.1 later
    ]

mixed : (a b c d : Bool) → ((a || b) || (c || d)) ≡ ((a || c) || (b || d))
mixed true b c d = refl
mixed false true true d = refl
mixed false true false d = refl
mixed false false c d = refl

pub any_either : {X : Type 0} (f g : X → Bool) (xs : List X)
    → list_any (λ x. f x || g x) xs ≡ (list_any f xs || list_any g xs)
any_either f g [] = refl
any_either f g (x ∷ xs) = rw (any_either f g xs) (mixed (f x) (g x) (list_any f xs) (list_any g xs))

pub any_agree : {X : Type 0} (f g : X → Bool) → ((x : X) → f x ≡ g x) → (xs : List X) → list_any f xs ≡ list_any g xs
any_agree f g h [] = refl
any_agree f g h (x ∷ xs) = let here = h x in let later = any_agree f g h xs in cc

any_none : {X : Type 0} (f : X → Bool) → ((x : X) → f x ≡ false) → (xs : List X) → list_any f xs ≡ false
any_none f h [] = refl
any_none f h (x ∷ xs) = or_from (f x) (list_any f xs) (h x) (any_none f h xs)

-- some pair passes, whichever list is gone through first
pub any_turned : {X Y : Type 0} (f : X → Y → Bool) (xs : List X) (ys : List Y)
    → list_any (λ x. list_any (λ y. f x y) ys) xs ≡ list_any (λ y. list_any (λ x. f x y) xs) ys
any_turned f [] ys = sym (any_none (λ y. false) (λ _. refl) ys)
any_turned f (x ∷ xs) ys = rw (any_turned f xs ys) (sym (any_either (λ y. f x y) (λ y. list_any (λ x. f x y) xs) ys))

-- a search finds something exactly where something passes
pub find_some : {X : Type 0} (f : X → Bool) (xs : List X) → is_some (find f xs) ≡ list_any f xs
find_some f [] = refl
find_some f (x ∷ xs) = elim (cases_Bool (f x)) [
  | inl here ↦ rw here
  | inr past ↦ rw past (find_some f xs)
]

-- a test that holds of all elements holds of one that another test finds
pub all_at : {X : Type 0} (f g : X → Bool) (b : Bool) → ((x : X) → f x ≡ true → g x ≡ b) → (xs : List X)
    → list_any f xs ≡ true → list_all g xs ≡ true → b ≡ true
all_at f g b h [] found each = absurd (let no : false ≡ true = found in cc)
all_at f g b h (x ∷ xs) found each =
    let parts = and_parts (g x) (list_all g xs) each in
    elim (or_cases (f x) (list_any f xs) found) [
      | inl here ↦ sym (h x here) ∙ parts.0
      | inr later ↦ all_at f g b h xs later parts.1
    ]
