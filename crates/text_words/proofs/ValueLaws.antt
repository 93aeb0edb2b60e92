-- The value that a word writes: what is read is a value, and its one spelling is `value_text`.
use Rattle.std.proofs.Common.{◌≡◌, ℕ, ◌+◌, ◌/◌, ◌<◌, ◌≤◌, Bool, true, false, not, ◌&&◌, cond, List, [], ◌∷◌, length, Some, None, refl, sym, ◌∙◌, subst, arith}
use Rattle.std.specs.Prelude.{slice_index, nat_le, nat_eq, ◌==◌, codes}
use Rattle.std.proofs.lemmas.Bool.Decides.{nat_tests}
use Rattle.std.specs.Cmp.Lexicographic.{bytes_decides}
use Rattle.hex.specs.Hex.{encode_with, encode_lower, lower_digits}
use Rattle.hex.proofs.HexLemmas.{length-encode_with}
use Rattle.tcs_terms.specs.declared.limits.TheConstants.{MAX_VALUE}
use Rattle.tcs_terms.specs.Objects.{IsValue}
use Rattle.tcs_terms.specs.Payloads.{same_name}
use Rattle.tcs_terms.proofs.BoolLaws.{left_of, right_of, not_false}
use Rattle.text_words.specs.HexWords.{bytes_in, value_in}
use Rattle.text_words.specs.PayloadText.{value_text}
use Rattle.text_words.proofs.HexLaws.{bytes_everywhere, bytes_takes, bytes_again, few_digits}

is_dash : (word : List ℕ) → same_name word (codes "-") ≡ true → word ≡ codes "-"
is_dash word h = (bytes_decides word (codes "-")).0 h

-- the text of a value that is not empty
text_of_some : (v : List ℕ) → 0 < length v → value_text v ≡ encode_lower v
text_of_some [] h = absurd (omega arith)
text_of_some (b ∷ bs) h = refl

empty_value : IsValue []
empty_value = record { short = omega arith; are_bytes = λ k d lt. absurd (omega arith) }

pub value_in_takes : (word v : List ℕ) → value_in word ≡ Some v → (word ≡ value_text v) × IsValue v
value_in_takes word v h = dash (same_name word (codes "-")) refl h where
  sized : (b : Bool) → (not (length word == 0) && nat_le (length word) (MAX_VALUE + MAX_VALUE)) ≡ b → cond b (bytes_in word) None ≡ Some v → (word ≡ value_text v) × IsValue v
  sized false e s = absurd cc
  sized true e s =
      let nonempty = not_false (length word == 0) (left_of (not (length word == 0)) (nat_le (length word) (MAX_VALUE + MAX_VALUE)) e) in
      let short_test = right_of (not (length word == 0)) (nat_le (length word) (MAX_VALUE + MAX_VALUE)) e in
      let short : length word ≤ MAX_VALUE + MAX_VALUE = grind (arith, nat_tests) in
      let some : 0 < length word = grind (arith, nat_tests) in
      let text = (bytes_takes word v s).0 in
      let twice = length-encode_with lower_digits v in
      let size : length word ≡ length (encode_lower v) = cc in
      (text ∙ sym (text_of_some v (omega arith)), few_digits word v s short)

  dash : (b : Bool) → same_name word (codes "-") ≡ b
      → cond b (Some []) (cond (not (length word == 0) && nat_le (length word) (MAX_VALUE + MAX_VALUE)) (bytes_in word) None) ≡ Some v
      → (word ≡ value_text v) × IsValue v
  dash true e s = let none : [] ≡ v = cc in subst (λ (u : List ℕ). (word ≡ value_text u) × IsValue u) none (is_dash word e, empty_value)
  dash false e s = sized (not (length word == 0) && nat_le (length word) (MAX_VALUE + MAX_VALUE)) refl s

and_false : (a : Bool) → (a && false) ≡ false
and_false true = refl
and_false false = refl

longer : (b : ℕ) (bs : List ℕ) → same_name (encode_with lower_digits (b ∷ bs)) (codes "-") ≡ false
unfolding encode_with
longer b bs = and_false (nat_eq (slice_index lower_digits (b / 16)) 45)

pub value_in_again : (v : List ℕ) → IsValue v → value_in (value_text v) ≡ Some v
value_in_again [] h = refl
value_in_again (b ∷ bs) h =
    let bytes = bytes_everywhere (b ∷ bs) h.are_bytes in
    let len = length-encode_with lower_digits (b ∷ bs) in
    let few = h.short in
    let nonempty : not (length (encode_lower (b ∷ bs)) == 0) ≡ true = grind (arith, nat_tests) in
    let short : nat_le (length (encode_lower (b ∷ bs))) (MAX_VALUE + MAX_VALUE) ≡ true = grind (arith, nat_tests) in
    let no_dash : same_name (encode_lower (b ∷ bs)) (codes "-") ≡ false = longer b bs in
    rw (no_dash, nonempty, short) (bytes_again (b ∷ bs) bytes)
