-- A word that is read is the one that is printed, and what is printed is read again.
use Rattle.std.proofs.Common.{◌≡◌, ℕ, ◌^◌, ◌<◌, Bool, true, false, not, ◌||◌, ◌&&◌, cond, List, [], ◌∷◌, length, get_or, Option, Some, None, Ok, refl, sym, ◌∙◌, ap, subst, arith, inl, inr}
use Rattle.std.specs.Prelude.{nat_lt, ◌==◌, slice_index, decimal, is_none}
use Rattle.std.specs.List.{list_all}
use Rattle.std.specs.Char.{is_ascii_digit}
use Rattle.std.specs.Str.Parse.{digits_value}
use Rattle.std.proofs.lemmas.Bool.{cases_lt}
use Rattle.std.proofs.lemmas.Bool.Decides.{nat_tests}
use Rattle.std.proofs.lemmas.Fmt.{decimal_nonempty, first_decimal, digits_decimal, digits_value-decimal, decimal-digits_value, decimal_digit}
use Rattle.tcs_terms.specs.declared.payloads.ReadPart.{ReadPart}
use Rattle.text_words.specs.declared.words.Reason.TheVariants as reasons
use Rattle.tcs_terms.specs.Objects.{IsName, IsValue}
use Rattle.tcs_terms.specs.ObjectFaults.{name_fault}
use Rattle.tcs_terms.specs.Order.{name_before}
use Rattle.tcs_terms.specs.Payloads.{reads_name}
use Rattle.text_words.specs.PayloadText.{value_text}
use Rattle.text_words.specs.PayloadWords.{misfit, ◌>>=◌, is_numeral, number_in, is_printable, number_or, number_word, name_in, name_word, from_word, written_word, found_or, value_word, commit_word, version_word}
use Rattle.text_words.specs.HexWords.{value_in}
use Rattle.tcs_terms.proofs.BoolLaws.{both, right_of, not_true}
use Rattle.tcs_terms.proofs.NameLaws.{is_name_without_fault, no_fault_of_a_name}
use Rattle.text_words.proofs.Steps.{bind_ok, ok_is, guard_ok}
use Rattle.text_words.proofs.ValueLaws.{value_in_takes, value_in_again}
use Rattle.text_words.proofs.NumberLaws.{numerals, digits_of_numeral, form_of_numeral, nonempty_of_numeral}

-- ---- numbers

first_of_numeral : (word : List ℕ) → is_numeral word ≡ true → get_or word 0 0 ≡ 48 → length word ≡ 1
first_of_numeral word h zero_first =
    let form = right_of (not (length word == 0)) (not (slice_index word 0 == 48) || (length word == 1)) (form_of_numeral word h) in
    grind (arith, nat_tests)

pub number_in_takes : (word : List ℕ) (n : ℕ) → number_in word ≡ Some n → (word ≡ decimal n) × (n < 2 ^ 64)
number_in_takes word n h = go (is_numeral word) (nat_lt (digits_value 10 word) (2 ^ 64)) refl refl h where
  go : (a b : Bool) → is_numeral word ≡ a → nat_lt (digits_value 10 word) (2 ^ 64) ≡ b → cond (a && b) (Some (digits_value 10 word)) None ≡ Some n → (word ≡ decimal n) × (n < 2 ^ 64)
  go true true e l s =
      let small : digits_value 10 word < 2 ^ 64 = grind (arith, nat_tests) in
      let same : digits_value 10 word ≡ n = cc in
      let text = decimal-digits_value numerals word (digits_of_numeral word e) (nonempty_of_numeral word e) (first_of_numeral word e) small in
      (sym text ∙ ap decimal same, omega (arith, same, small))
  go true false e l s = absurd cc
  go false b e l s = absurd cc

decimal_is_numeral : (n : ℕ) → n < 2 ^ 64 → is_numeral (decimal n) ≡ true
decimal_is_numeral n small =
    let some = decimal_nonempty n small in
    let digits = digits_decimal numerals n small in
    let nonempty : not (length (decimal n) == 0) ≡ true = grind (arith, nat_tests) in
    let led : (not (slice_index (decimal n) 0 == 48) || (length (decimal n) == 1)) ≡ true = elim (cases_lt 0 n) [
      | inl above ↦ (let first = first_decimal n above small in grind (arith, nat_tests))
      | inr none ↦ (let e : n ≡ 0 = omega arith in rw (e, decimal_digit 0 (omega arith)) refl)
    ] in
    both (not (length (decimal n) == 0) && (not (slice_index (decimal n) 0 == 48) || (length (decimal n) == 1))) (list_all is_ascii_digit (decimal n))
    (both (not (length (decimal n) == 0)) (not (slice_index (decimal n) 0 == 48) || (length (decimal n) == 1)) nonempty led) digits

pub number_in_again : (n : ℕ) → n < 2 ^ 64 → number_in (decimal n) ≡ Some n
number_in_again n small =
    let numeral = decimal_is_numeral n small in
    let value = digits_value-decimal numerals n small in
    let fits : nat_lt (digits_value 10 (decimal n)) (2 ^ 64) ≡ true = grind (arith, nat_tests) in
    rw (numeral, fits, value) refl

pub number_takes : (words : List (List ℕ)) (x : ℕ × List (List ℕ)) → number_word words ≡ Ok x → (words ≡ decimal x.0 ∷ x.1) × (x.0 < 2 ^ 64)
unfolding number_word
number_takes [] x h = absurd cc
number_takes (w ∷ ws) x h = go (number_in w) refl h where
  refused : (b : Bool) → cond b (misfit reasons.Word (length (w ∷ ws))) (misfit reasons.Number (length (w ∷ ws))) ≡ Ok x → (w ∷ ws ≡ decimal x.0 ∷ x.1) × (x.0 < 2 ^ 64)
  refused true e = absurd cc
  refused false e = absurd cc

  go : (o : Option ℕ) → number_in w ≡ o → number_or o w ws ≡ Ok x → (w ∷ ws ≡ decimal x.0 ∷ x.1) × (x.0 < 2 ^ 64)
  go (Some n) e k =
      let t = number_in_takes w n e in
      subst (λ (y : ℕ × List (List ℕ)). (w ∷ ws ≡ decimal y.0 ∷ y.1) × (y.0 < 2 ^ 64)) (ok_is (n, ws) x k) (ap (λ (v : List ℕ). v ∷ ws) t.0, t.1)
  go None e k = refused ((length w == 0) || not (list_all is_printable w)) k

pub number_again : (n : ℕ) (ws : List (List ℕ)) → n < 2 ^ 64 → number_word (decimal n ∷ ws) ≡ Ok (n, ws)
unfolding number_word
number_again n ws small = rw (number_in_again n small) refl

pub commit_takes : (words : List (List ℕ)) (x : ℕ × List (List ℕ)) → commit_word words ≡ Ok x → (words ≡ decimal x.0 ∷ x.1) × (x.0 < 2 ^ 64) × ((x.0 == 0) ≡ false)
unfolding commit_word
commit_takes words x h =
    let a = bind_ok (number_word words) _ x h in
    let t = number_takes words a.0 a.1 in
    let g = guard_ok (a.0.0 == 0) (record { left = length words; reason = reasons.Version }) a.0 x a.2 in
    subst (λ (y : ℕ × List (List ℕ)). (words ≡ decimal y.0 ∷ y.1) × (y.0 < 2 ^ 64) × ((y.0 == 0) ≡ false)) g.1 (t.0, t.1, g.0)

pub commit_again : (n : ℕ) (ws : List (List ℕ)) → n < 2 ^ 64 → (n == 0) ≡ false → commit_word (decimal n ∷ ws) ≡ Ok (n, ws)
unfolding commit_word
commit_again n ws small above = rw (number_again n ws small, above) refl

pub version_takes : (commit : ℕ) (words : List (List ℕ)) (x : ℕ × List (List ℕ)) → version_word commit words ≡ Ok x → (words ≡ decimal x.0 ∷ x.1) × (x.0 < 2 ^ 64) × (nat_lt x.0 commit ≡ true)
unfolding version_word
version_takes commit words x h =
    let a = bind_ok (number_word words) _ x h in
    let t = number_takes words a.0 a.1 in
    let g = guard_ok (not (nat_lt a.0.0 commit)) (record { left = length words; reason = reasons.Version }) a.0 x a.2 in
    subst (λ (y : ℕ × List (List ℕ)). (words ≡ decimal y.0 ∷ y.1) × (y.0 < 2 ^ 64) × (nat_lt y.0 commit ≡ true)) g.1 (t.0, t.1, not_true (nat_lt a.0.0 commit) g.0)

pub version_again : (commit n : ℕ) (ws : List (List ℕ)) → n < 2 ^ 64 → nat_lt n commit ≡ true → version_word commit (decimal n ∷ ws) ≡ Ok (n, ws)
unfolding version_word
version_again commit n ws small low = rw (number_again n ws small, low) refl

-- ---- names

pub name_in_takes : (word n : List ℕ) → name_in word ≡ Some n → (word ≡ n) × IsName n
unfolding name_in
name_in_takes word n h = go (name_fault word) refl h where
  go : (o : Option ℕ) → name_fault word ≡ o → cond (is_none o) (Some word) None ≡ Some n → (word ≡ n) × IsName n
  go None e s = let same : word ≡ n = cc in (same, subst IsName same (is_name_without_fault word e))
  go (Some k) e s = absurd cc

pub name_in_again : (name : List ℕ) → IsName name → name_in name ≡ Some name
unfolding name_in
name_in_again name h = rw (no_fault_of_a_name name h) refl

found_is : (o : Option (List ℕ)) (left : ℕ) (v : List ℕ) → found_or o left ≡ Ok v → o ≡ Some v
found_is (Some u) left v h = ap Some (ok_is u v h)
found_is None left v h = absurd cc

found_name : (word : List ℕ) (left : ℕ) (n : List ℕ) → found_or (name_in word) left ≡ Ok n → (word ≡ n) × IsName n
found_name word left n h = name_in_takes word n (found_is (name_in word) left n h)

name_found : (word : List ℕ) (left : ℕ) → IsName word → found_or (name_in word) left ≡ Ok word
name_found word left h = rw (name_in_again word h) refl

pub name_takes : (before : List ℕ) (words : List (List ℕ)) (x : List ℕ × List (List ℕ)) → name_word before words ≡ Ok x → (words ≡ x.0 ∷ x.1) × IsName x.0 × (name_before before x.0 ≡ true)
unfolding name_word
name_takes before [] x h = absurd cc
name_takes before (w ∷ ws) x h =
    let a = bind_ok (found_or (name_in w) (length (w ∷ ws))) _ x h in
    let t = found_name w (length (w ∷ ws)) a.0 a.1 in
    let g = guard_ok (not (name_before before w)) (record { left = length (w ∷ ws); reason = reasons.Order }) (a.0, ws) x a.2 in
    let above = not_true (name_before before w) g.0 in
    subst (λ (y : List ℕ × List (List ℕ)). (w ∷ ws ≡ y.0 ∷ y.1) × IsName y.0 × (name_before before y.0 ≡ true)) g.1
    (ap (λ (v : List ℕ). v ∷ ws) t.0, t.1, rw (← t.0) above)

pub name_again : (before name : List ℕ) (ws : List (List ℕ)) → IsName name → name_before before name ≡ true → name_word before (name ∷ ws) ≡ Ok (name, ws)
unfolding name_word
name_again before name ws h above = rw (name_found name (length (name ∷ ws)) h, above) refl

pub from_takes : (end : List ℕ) (words : List (List ℕ)) (x : List ℕ × List (List ℕ)) → from_word end words ≡ Ok x → (words ≡ x.0 ∷ x.1) × IsName x.0 × (name_before x.0 end ≡ false)
unfolding from_word
from_takes end [] x h = absurd cc
from_takes end (w ∷ ws) x h =
    let a = bind_ok (found_or (name_in w) (length (w ∷ ws))) _ x h in
    let t = found_name w (length (w ∷ ws)) a.0 a.1 in
    let g = guard_ok (name_before w end) (record { left = length (w ∷ ws); reason = reasons.Order }) (a.0, ws) x a.2 in
    subst (λ (y : List ℕ × List (List ℕ)). (w ∷ ws ≡ y.0 ∷ y.1) × IsName y.0 × (name_before y.0 end ≡ false)) g.1
    (ap (λ (v : List ℕ). v ∷ ws) t.0, t.1, rw (← t.0) g.0)

pub from_again : (end name : List ℕ) (ws : List (List ℕ)) → IsName name → name_before name end ≡ false → from_word end (name ∷ ws) ≡ Ok (name, ws)
unfolding from_word
from_again end name ws h above = rw (name_found name (length (name ∷ ws)) h, above) refl

pub written_takes : (reads : List ReadPart) (before : List ℕ) (words : List (List ℕ)) (x : List ℕ × List (List ℕ)) → written_word reads before words ≡ Ok x
    → (words ≡ x.0 ∷ x.1) × IsName x.0 × (name_before before x.0 ≡ true) × (reads_name reads x.0 ≡ true)
unfolding written_word
written_takes reads before words x h =
    let a = bind_ok (name_word before words) _ x h in
    let t = name_takes before words a.0 a.1 in
    let g = guard_ok (not (reads_name reads a.0.0)) (record { left = length words; reason = reasons.Unread }) a.0 x a.2 in
    subst (λ (y : List ℕ × List (List ℕ)). (words ≡ y.0 ∷ y.1) × IsName y.0 × (name_before before y.0 ≡ true) × (reads_name reads y.0 ≡ true)) g.1
    (t.0, t.1, t.2, not_true (reads_name reads a.0.0) g.0)

pub written_again : (reads : List ReadPart) (before name : List ℕ) (ws : List (List ℕ)) → IsName name → name_before before name ≡ true → reads_name reads name ≡ true
    → written_word reads before (name ∷ ws) ≡ Ok (name, ws)
unfolding written_word
written_again reads before name ws h above known = rw (name_again before name ws h above, known) refl

-- ---- values

pub value_takes : (words : List (List ℕ)) (x : List ℕ × List (List ℕ)) → value_word words ≡ Ok x → (words ≡ value_text x.0 ∷ x.1) × IsValue x.0
unfolding value_word
value_takes [] x h = absurd cc
value_takes (w ∷ ws) x h = go (value_in w) refl h where
  go : (o : Option (List ℕ)) → value_in w ≡ o → (found_or o (length (w ∷ ws)) >>= λ v. Ok (v, ws)) ≡ Ok x → (w ∷ ws ≡ value_text x.0 ∷ x.1) × IsValue x.0
  go (Some v) e k =
      let t = value_in_takes w v e in
      subst (λ (y : List ℕ × List (List ℕ)). (w ∷ ws ≡ value_text y.0 ∷ y.1) × IsValue y.0) (ok_is (v, ws) x k) (ap (λ (u : List ℕ). u ∷ ws) t.0, t.1)
  go None e k = absurd cc

pub value_again : (v : List ℕ) (ws : List (List ℕ)) → IsValue v → value_word (value_text v ∷ ws) ≡ Ok (v, ws)
unfolding value_word
value_again v ws h = rw (value_in_again v h) refl
