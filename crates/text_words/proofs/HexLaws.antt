-- Bytes in lower-case hex have one text: what is read is encoded so, and what is encoded is read again.
use Rattle.std.proofs.Common.{◌≡◌, ℕ, zero, suc, ◌+◌, ◌*◌, ◌/◌, ◌%◌, ◌<◌, ◌≤◌, Bool, true, false, ◌&&◌, cond, List, [], ◌∷◌, ◌++◌, length, All, Option, Some, None, Result, Ok, Err, refl, sym, ◌∙◌, ap, arith, inl, inr, ◌⊎◌}
use Rattle.std.specs.Prelude.{slice_index}
use Rattle.std.specs.Result.{result_ok}
use Rattle.std.specs.List.{list_all}
use Rattle.std.proofs.lemmas.Bool.{cases_lt}
use Rattle.std.proofs.lemmas.Bool.Decides.{nat_tests}
use Rattle.std.proofs.lemmas.List.{get_or_past}
use Rattle.hex.specs.declared.error.FromHexError.{FromHexError}
use Rattle.hex.specs.Hex.{decode_of, decode_pairs, encode_with, encode_lower, lower_digits, hex_digit_value, digit_or_error, value_at, pair_value, ◌>>=◌, IsBytes}
use Rattle.hex.proofs.HexLemmas.{decode_of-ok, decode_of-even, decode_of-encode_lower}
use Rattle.tcs_terms.specs.declared.limits.TheConstants.{MAX_VALUE}
use Rattle.tcs_terms.specs.Objects.{IsValue}
use Rattle.tcs_terms.proofs.BoolLaws.{both, left_of, right_of}
use Rattle.text_words.specs.HexWords.{is_lower_digit, bytes_in}

bytes_at_all : (bytes : List ℕ) → IsBytes bytes → All (λ b. b < 256) bytes
bytes_at_all [] h k d lt = absurd (omega arith)
bytes_at_all (b ∷ bs) h zero d lt = h 0
bytes_at_all (b ∷ bs) h (suc k) d lt = bytes_at_all bs (λ i. h (suc i)) k d (omega arith)

pub bytes_everywhere : (bytes : List ℕ) → All (λ b. b < 256) bytes → IsBytes bytes
bytes_everywhere bytes h i = elim (cases_lt i (length bytes)) [
  | inl lt ↦ h i 0 lt
  | inr le ↦ rw (get_or_past bytes i 0 le) (omega arith)
]

-- ---- digits

-- the digit at each place of the table
table : (h : ℕ) → h < 16 → (h < 10 → slice_index lower_digits h ≡ 48 + h) × (10 ≤ h → slice_index lower_digits h ≡ 87 + h)
table zero lt = (λ _. refl, λ e. absurd (omega arith))
table (suc zero) lt = (λ _. refl, λ e. absurd (omega arith))
table (suc (suc zero)) lt = (λ _. refl, λ e. absurd (omega arith))
table (suc (suc (suc zero))) lt = (λ _. refl, λ e. absurd (omega arith))
table (suc (suc (suc (suc zero)))) lt = (λ _. refl, λ e. absurd (omega arith))
table (suc (suc (suc (suc (suc zero))))) lt = (λ _. refl, λ e. absurd (omega arith))
table (suc (suc (suc (suc (suc (suc zero)))))) lt = (λ _. refl, λ e. absurd (omega arith))
table (suc (suc (suc (suc (suc (suc (suc zero))))))) lt = (λ _. refl, λ e. absurd (omega arith))
table (suc (suc (suc (suc (suc (suc (suc (suc zero)))))))) lt = (λ _. refl, λ e. absurd (omega arith))
table (suc (suc (suc (suc (suc (suc (suc (suc (suc zero))))))))) lt = (λ _. refl, λ e. absurd (omega arith))
table (suc (suc (suc (suc (suc (suc (suc (suc (suc (suc zero)))))))))) lt = (λ e. absurd (omega arith), λ _. refl)
table (suc (suc (suc (suc (suc (suc (suc (suc (suc (suc (suc zero))))))))))) lt = (λ e. absurd (omega arith), λ _. refl)
table (suc (suc (suc (suc (suc (suc (suc (suc (suc (suc (suc (suc zero)))))))))))) lt = (λ e. absurd (omega arith), λ _. refl)
table (suc (suc (suc (suc (suc (suc (suc (suc (suc (suc (suc (suc (suc zero))))))))))))) lt = (λ e. absurd (omega arith), λ _. refl)
table (suc (suc (suc (suc (suc (suc (suc (suc (suc (suc (suc (suc (suc (suc zero)))))))))))))) lt = (λ e. absurd (omega arith), λ _. refl)
table (suc (suc (suc (suc (suc (suc (suc (suc (suc (suc (suc (suc (suc (suc (suc zero))))))))))))))) lt = (λ e. absurd (omega arith), λ _. refl)
table (suc (suc (suc (suc (suc (suc (suc (suc (suc (suc (suc (suc (suc (suc (suc (suc h)))))))))))))))) lt = absurd (omega arith)

low_or_high : (c h : ℕ) → is_lower_digit c ≡ true → hex_digit_value c ≡ Some h → ((c ≡ 48 + h) × (h < 10)) ⊎ ((c ≡ 87 + h) × (10 ≤ h) × (h < 16))
low_or_high c h lower e = elim (cases_lt c 58) [
  | inl lt ↦ inl (grind (arith, nat_tests), grind (arith, nat_tests))
  | inr le ↦ inr (grind (arith, nat_tests), grind (arith, nat_tests), grind (arith, nat_tests))
]

digit_back : (c h : ℕ) → is_lower_digit c ≡ true → hex_digit_value c ≡ Some h → (h < 16) × (slice_index lower_digits h ≡ c)
digit_back c h lower e = elim (low_or_high c h lower e) [
  | inl low ↦ (omega arith, (table h (omega arith)).0 low.1 ∙ sym low.0)
  | inr high ↦ (high.2, (table h high.2).1 high.1 ∙ sym high.0)
]

digit_is_lower : (h : ℕ) → h < 16 → is_lower_digit (slice_index lower_digits h) ≡ true
digit_is_lower h lt = elim (cases_lt h 10) [
  | inl low ↦ rw ((table h lt).0 low) (grind (arith, nat_tests))
  | inr high ↦ rw ((table h lt).1 high) (grind (arith, nat_tests))
]

-- ---- pairs of digits

hex_bind : {A B : Type 0} (r : Result A FromHexError) (f : A → Result B FromHexError) (y : B) → (r >>= f) ≡ Ok y → (x : A) × (r ≡ Ok x) × (f x ≡ Ok y)
hex_bind (Ok x) f y e = (x, refl, e)
hex_bind (Err d) f y e = absurd cc

abbrev done : {A : Type 0} → A → Result A FromHexError
done x = Ok x

ok_is : {A : Type 0} (x y : A) → done x ≡ done y → x ≡ y
ok_is x y e = cc

digit_read : (c i h : ℕ) → value_at c i ≡ Ok h → hex_digit_value c ≡ Some h
digit_read c i h e = go (hex_digit_value c) e where
  go : (o : Option ℕ) → digit_or_error c i o ≡ Ok h → o ≡ Some h
  go (Some v) k = ap Some (ok_is v h k)
  go None k = absurd cc

-- lower case digits are encoded again as they were
encoded_again : (i : ℕ) (s bytes : List ℕ) → decode_pairs i s ≡ Ok bytes → list_all is_lower_digit s ≡ true → encode_with lower_digits bytes ≡ s
unfolding decode_pairs encode_with
encoded_again i [] bytes e lower = ap (encode_with lower_digits) (sym (ok_is [] bytes e))
encoded_again i (a ∷ []) bytes e lower = absurd cc
encoded_again i (a ∷ b ∷ rest) bytes e lower =
    let p0 = hex_bind (pair_value a b i) _ bytes e in
    let p1 = hex_bind (value_at a i) _ p0.0 p0.1 in
    let p2 = hex_bind (value_at b (i + 1)) _ p0.0 p1.2 in
    let p3 = hex_bind (decode_pairs (i + 2) rest) _ bytes p0.2 in
    let lower_a = left_of (is_lower_digit a) (is_lower_digit b && list_all is_lower_digit rest) lower in
    let lower_rest = right_of (is_lower_digit a) (is_lower_digit b && list_all is_lower_digit rest) lower in
    let high = digit_back a p1.0 lower_a (digit_read a i p1.0 p1.1) in
    let low = digit_back b p2.0 (left_of (is_lower_digit b) (list_all is_lower_digit rest) lower_rest) (digit_read b (i + 1) p2.0 p2.1) in
    let again = encoded_again (i + 2) rest p3.0 p3.1 (right_of (is_lower_digit b) (list_all is_lower_digit rest) lower_rest) in
    let byte : p1.0 * 16 + p2.0 ≡ p0.0 = ok_is (p1.0 * 16 + p2.0) p0.0 p2.2 in
    let small = low.0 in
    let front : p0.0 / 16 ≡ p1.0 = omega arith in
    let back : p0.0 % 16 ≡ p2.0 = omega arith in
    let whole : encode_with lower_digits (p0.0 ∷ p3.0) ≡ a ∷ b ∷ rest = rw (front, back, high.1, low.1, again) refl in
    ap (encode_with lower_digits) (sym (ok_is (p0.0 ∷ p3.0) bytes p3.2)) ∙ whole

pub encoded_is_lower : (bytes : List ℕ) → IsBytes bytes → list_all is_lower_digit (encode_with lower_digits bytes) ≡ true
unfolding encode_with
encoded_is_lower [] h = refl
encoded_is_lower (b ∷ bs) h =
    let small : b < 256 = h 0 in
    both (is_lower_digit (slice_index lower_digits (b / 16))) (is_lower_digit (slice_index lower_digits (b % 16)) && list_all is_lower_digit (encode_with lower_digits bs)) (digit_is_lower (b / 16) (omega arith))
    (both (is_lower_digit (slice_index lower_digits (b % 16))) (list_all is_lower_digit (encode_with lower_digits bs)) (digit_is_lower (b % 16) (omega arith)) (encoded_is_lower bs (λ i. h (suc i))))

-- ---- bytes in hex

some_ok : (r : Result (List ℕ) FromHexError) (v : List ℕ) → result_ok r ≡ Some v → r ≡ Ok v
some_ok (Ok u) v e = cc
some_ok (Err d) v e = absurd cc

pub bytes_decode : (word v : List ℕ) → bytes_in word ≡ Some v → (list_all is_lower_digit word ≡ true) × (decode_of word ≡ Ok v)
unfolding bytes_in
bytes_decode word v h = go (list_all is_lower_digit word) refl h where
  go : (b : Bool) → list_all is_lower_digit word ≡ b → cond b (result_ok (decode_of word)) None ≡ Some v → (list_all is_lower_digit word ≡ true) × (decode_of word ≡ Ok v)
  go true e s = (e, some_ok (decode_of word) v s)
  go false e s = absurd cc

pub bytes_takes : (text v : List ℕ) → bytes_in text ≡ Some v → (text ≡ encode_lower v) × IsBytes v
bytes_takes text v h =
    let read = bytes_decode text v h in
    let ok = decode_of-ok text v read.1 in
    (sym (encoded_again 0 text v (sym (decode_of-even text ok.0) ∙ read.1) read.0), ok.3)

pub bytes_again : (v : List ℕ) → IsBytes v → bytes_in (encode_lower v) ≡ Some v
unfolding bytes_in
bytes_again v h = rw (encoded_is_lower v h, decode_of-encode_lower v h) refl

-- few digits write a value
pub few_digits : (word v : List ℕ) → bytes_in word ≡ Some v → length word ≤ MAX_VALUE + MAX_VALUE → IsValue v
few_digits word v h short =
    let ok = decode_of-ok word v (bytes_decode word v h).1 in
    let twice = ok.2 in
    record { short = omega arith; are_bytes = bytes_at_all v ok.3 }
