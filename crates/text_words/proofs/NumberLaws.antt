-- The number that a word writes: std's parser gives it, and its one spelling is `decimal`.
use Rattle.std.proofs.Common.{◌≡◌, ℕ, ◌^◌, ◌<◌, ◌≢◌, true, false, not, ◌||◌, ◌&&◌, List, [], ◌∷◌, length, get_or, Result, Ok, Err, refl, arith, rules, inl, inr}
use Rattle.std.specs.Prelude.{nat_lt, ◌==◌, slice_index, IsAscii}
use Rattle.std.specs.Result.{result_ok, OkIff}
use Rattle.std.specs.List.{list_all}
use Rattle.std.specs.Char.{is_ascii_digit}
use Rattle.std.specs.Str.{IsUtf8}
use Rattle.std.specs.Str.Parse.{digits_value, ParsesUnsigned}
use Rattle.std.proofs.lemmas.Bool.{cases_lt}
use Rattle.std.proofs.lemmas.Bool.Decides.{nat_tests}
use Rattle.std.proofs.lemmas.Str.{IsUtf8-from_ascii}
use Rattle.std.proofs.lemmas.Str.Ascii.{IsAscii-nil, IsAscii-cons}
use Rattle.std.proofs.lemmas.Str.Parse.{IsNumeralModel, numerals_by_value, parse_plain}
use Rattle.text_words.specs.PayloadWords.{is_numeral, number_in}
use Rattle.tcs_terms.proofs.BoolLaws.{left_of, right_of, not_false}

-- texts of digits, and their numbers, as std's lemmas want them
pub numerals : IsNumeralModel (λ ds. list_all is_ascii_digit ds ≡ true) (digits_value 10)
numerals = numerals_by_value (λ ds. list_all is_ascii_digit ds ≡ true) (search rules)

digits_are_ascii : (word : List ℕ) → list_all is_ascii_digit word ≡ true → IsAscii word
digits_are_ascii [] h = IsAscii-nil
digits_are_ascii (c ∷ cs) h =
    let digit = left_of (is_ascii_digit c) (list_all is_ascii_digit cs) h in
    IsAscii-cons c cs (grind (arith, nat_tests)) (digits_are_ascii cs (right_of (is_ascii_digit c) (list_all is_ascii_digit cs) h))

pub digits_of_numeral : (word : List ℕ) → is_numeral word ≡ true → list_all is_ascii_digit word ≡ true
digits_of_numeral word h = right_of (not (length word == 0) && (not (slice_index word 0 == 48) || (length word == 1))) (list_all is_ascii_digit word) h

pub form_of_numeral : (word : List ℕ) → is_numeral word ≡ true → (not (length word == 0) && (not (slice_index word 0 == 48) || (length word == 1))) ≡ true
form_of_numeral word h = left_of (not (length word == 0) && (not (slice_index word 0 == 48) || (length word == 1))) (list_all is_ascii_digit word) h

pub numeral_is_text : (word : List ℕ) → is_numeral word ≡ true → IsUtf8 word
numeral_is_text word h = IsUtf8-from_ascii word (digits_are_ascii word (digits_of_numeral word h))

pub nonempty_of_numeral : (word : List ℕ) → is_numeral word ≡ true → 0 < length word
nonempty_of_numeral word h =
    let some = not_false (length word == 0) (left_of (not (length word == 0)) (not (slice_index word 0 == 48) || (length word == 1)) (form_of_numeral word h)) in
    grind (arith, nat_tests)

first_is_no_plus : (word : List ℕ) → 0 < length word → list_all is_ascii_digit word ≡ true → get_or word 0 0 ≢ 43
first_is_no_plus [] some h = absurd (omega arith)
first_is_no_plus (c ∷ cs) some h = let digit = left_of (is_ascii_digit c) (list_all is_ascii_digit cs) h in λ e. absurd (grind (arith, nat_tests))

small_is : (a b : ℕ) → a < b → nat_lt a b ≡ true
small_is a b h = grind (arith, nat_tests)

large_is : (a b : ℕ) → (a < b → ⊥) → nat_lt a b ≡ false
large_is a b h = elim (cases_lt a b) [ inl lt ↦ absurd (h lt) | inr le ↦ grind (arith, nat_tests) ]

-- what std's parser answers for a numeral
pub parsed : {E : Type 0} (word : List ℕ) (r : Result ℕ E) → is_numeral word ≡ true → ParsesUnsigned 64 10 word r → result_ok r ≡ number_in word
parsed {E = E} word r h given = go r (parse_plain numerals 64 word r given (first_is_no_plus word (nonempty_of_numeral word h) (digits_of_numeral word h))) where
  go : (r : Result ℕ E) → OkIff r ((list_all is_ascii_digit word ≡ true) × (0 < length word) × (digits_value 10 word < 2 ^ 64)) (digits_value 10 word) → result_ok r ≡ number_in word
  go (Ok n) k = let small : nat_lt (digits_value 10 word) (2 ^ 64) ≡ true = small_is _ _ k.0.2 in rw (h, small, k.1) refl
  go (Err e) k =
      let large : nat_lt (digits_value 10 word) (2 ^ 64) ≡ false = large_is _ _ (λ lt. k (digits_of_numeral word h, nonempty_of_numeral word h, lt)) in rw (h, large) refl
