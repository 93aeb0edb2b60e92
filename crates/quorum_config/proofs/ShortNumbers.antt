-- The numbers of words that are short: no value of theirs is too great for 64 bits.
use Rattle.std.proofs.Common.{◌≡◌, ℕ, ◌+◌, ◌-◌, ◌*◌, ◌<◌, ◌≤◌, ◌^◌, true, List, length, take, get_or, ◌∙◌, ap, arith}
use Rattle.std.specs.Char.{is_ascii_digit, digit_value}
use Rattle.std.specs.List.{list_all}
use Rattle.std.specs.Str.Parse.{digits_value}
use Rattle.std.proofs.lemmas.Bool.Decides.{nat_tests}
use Rattle.std.proofs.lemmas.Int.Digits.{digits_value_more}
use Rattle.std.proofs.lemmas.List.{length-take-le}
use Rattle.std.proofs.lemmas.List.Folds.{list_all_more}
use Rattle.std.proofs.lemmas.Str.{digit_value_digit}
use Rattle.std.proofs.lemmas.Str.Parse.{digits_value_short}
use Rattle.text_words.proofs.NumberLaws.{numerals}

-- before the last of 19 digits
pub stays_small : (word : List ℕ) (i : ℕ) → i < length word → length word ≤ 19 → list_all is_ascii_digit (take i word) ≡ true → digits_value 10 (take i word) < 10 ^ 18
stays_small word i inside few digits = digits_value_short numerals (take i word) 18 digits (omega (arith, length-take-le i word (omega arith)))

-- one digit more
pub all_digits : (word : List ℕ) (i : ℕ) → i < length word → list_all is_ascii_digit (take i word) ≡ true → is_ascii_digit (get_or word i 0) ≡ true
    → list_all is_ascii_digit (take (i + 1) word) ≡ true
all_digits word i inside so_far digit = rw (list_all_more is_ascii_digit word i 0 inside, so_far) digit

pub next_value : (word : List ℕ) (i : ℕ) → i < length word → is_ascii_digit (get_or word i 0) ≡ true
    → digits_value 10 (take (i + 1) word) ≡ digits_value 10 (take i word) * 10 + (get_or word i 0 - 48)
next_value word i inside digit =
    let c = get_or word i 0 in
    let read : digit_value c ≡ c - 48 = omega (arith, digit_value_digit c (grind (arith, nat_tests))) in
    digits_value_more 10 word i inside ∙ ap (λ (n : ℕ). digits_value 10 (take i word) * 10 + n) read
