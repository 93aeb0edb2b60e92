-- Where names strictly ascend, an element has no name of one before it.
use Rattle.std.proofs.Common.{◌≡◌, ℕ, zero, suc, ◌<◌, true, false, List, [], ◌∷◌, length, take, get_or, find, refl, ◌∙◌, arith}
use Rattle.std.specs.Prelude.{Some, None, map}
use Rattle.std.specs.Cmp.Lexicographic.{slice_cmp, texts_ties}
use Rattle.std.specs.Ordering.{is_eq, is_lt, nat_cmp}
use Rattle.std.specs.declared.cmp.Ordering.{Ordering}
use Rattle.std.specs.declared.cmp.Ordering.TheVariants.{Less, Equal, Greater}
use Rattle.std.proofs.lemmas.Bool.{cond-false}
use Rattle.tcs_terms.proofs.BoolLaws.{left_of, right_of}
use Rattle.tcs_terms.proofs.OrderLaws.{names_skip}
use Rattle.tcs_terms.specs.Order.{name_before, names_ascend}
use Rattle.tcs_terms.specs.Payloads.{same_name}

-- of two names that are one neither stands before the other
before_apart : (a b : List ℕ) → name_before a b ≡ true → same_name a b ≡ false
before_apart a b before = texts_ties a b ∙ go (slice_cmp nat_cmp a b) before
  where
    go : (o : Ordering) → is_lt o ≡ true → is_eq o ≡ false
    go Less e = refl
    go Equal e = absurd (let no : false ≡ true = e in cc)
    go Greater e = refl

module _ {X : Type 0} (key : X → List ℕ) where
  -- the first of names that ascend stands before the one at each place behind it
  first_before : (x : X) (xs : List X) (i : ℕ) (d : X) → names_ascend (map key (x ∷ xs)) ≡ true → i < length xs
      → name_before (key x) (key (get_or xs i d)) ≡ true
  first_before x [] i d ascend within = absurd (omega arith)
  first_before x (y ∷ ys) zero d ascend within = left_of (name_before (key x) (key y)) (names_ascend (map key (y ∷ ys))) ascend
  first_before x (y ∷ ys) (suc i) d ascend within =
      names_skip (key x) (key y) (key (get_or ys i d)) (left_of (name_before (key x) (key y)) (names_ascend (map key (y ∷ ys))) ascend)
      (first_before y ys i d (right_of (name_before (key x) (key y)) (names_ascend (map key (y ∷ ys))) ascend) (omega arith))

  rest_ascends : (x : X) (xs : List X) → names_ascend (map key (x ∷ xs)) ≡ true → names_ascend (map key xs) ≡ true
  rest_ascends x [] ascend = refl
  rest_ascends x (y ∷ ys) ascend = right_of (name_before (key x) (key y)) (names_ascend (map key (y ∷ ys))) ascend

  -- before an element none is found that has its name
  pub none_before : (xs : List X) (i : ℕ) (d : X) → names_ascend (map key xs) ≡ true → i < length xs
      → find (λ x. same_name (key x) (key (get_or xs i d))) (take i xs) ≡ None
  none_before [] i d ascend within = absurd (omega arith)
  none_before (x ∷ xs) zero d ascend within = refl
  none_before (x ∷ xs) (suc i) d ascend within =
      let name = key (get_or xs i d) in
      cond-false (same_name (key x) name) (Some x) (find (λ y. same_name (key y) name) (take i xs))
      (before_apart (key x) name (first_before x xs i d ascend (omega arith)))
      ∙ none_before xs i d (rest_ascends x xs ascend) (omega arith)
