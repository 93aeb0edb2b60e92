-- Bytes are a name exactly where they have no fault, and a name is text.
use Rattle.std.proofs.Common.{◌≡◌, ℕ, zero, suc, ◌+◌, ◌<◌, Bool, true, false, not, ◌||◌, ◌&&◌, cond, List, [], ◌∷◌, length, Some, None, refl, sym, ◌∙◌, arith}
use Rattle.std.specs.Prelude.{position, nat_lt, ◌==◌, IsUtf8}
use Rattle.std.specs.Str.{IsAscii}
use Rattle.std.specs.List.{list_all, position_from}
use Rattle.std.proofs.lemmas.Bool.Decides.{nat_tests}
use Rattle.std.proofs.lemmas.Iterator.Adapters.{position_from-zero}
use Rattle.std.proofs.lemmas.Str.{IsUtf8-from_ascii}
use Rattle.std.proofs.lemmas.Str.Ascii.{IsAscii-nil}
use Rattle.tcs_terms.specs.declared.limits.TheConstants.{MAX_NAME}
use Rattle.tcs_terms.specs.Objects.{is_name_byte, IsName}
use Rattle.tcs_terms.specs.ObjectFaults.{name_fault}
use Rattle.tcs_terms.proofs.BoolLaws.{left_of, right_of}

-- no element fails exactly where all pass
all-from_none : (p : ℕ → Bool) (i : ℕ) (xs : List ℕ) → position_from (λ x. not (p x)) i xs ≡ None → list_all p xs ≡ true
all-from_none p i [] h = refl
all-from_none p i (x ∷ xs) h = go (p x) (all-from_none p (i + 1) xs) h where
  go : (b : Bool) → (position_from (λ x. not (p x)) (i + 1) xs ≡ None → list_all p xs ≡ true) → cond (not b) (Some i) (position_from (λ x. not (p x)) (i + 1) xs) ≡ None → (b && list_all p xs) ≡ true
  go true step e = step e
  go false step e = absurd cc

none-from_all : (p : ℕ → Bool) (i : ℕ) (xs : List ℕ) → list_all p xs ≡ true → position_from (λ x. not (p x)) i xs ≡ None
none-from_all p i [] h = refl
none-from_all p i (x ∷ xs) h = go (p x) (none-from_all p (i + 1) xs) h where
  go : (b : Bool) → (list_all p xs ≡ true → position_from (λ x. not (p x)) (i + 1) xs ≡ None) → (b && list_all p xs) ≡ true → cond (not b) (Some i) (position_from (λ x. not (p x)) (i + 1) xs) ≡ None
  go true step e = step e
  go false step e = absurd cc

pub is_name_without_fault : (bytes : List ℕ) → name_fault bytes ≡ None → IsName bytes
is_name_without_fault bytes h = go ((length bytes == 0) || nat_lt MAX_NAME (length bytes)) refl h where
  go : (b : Bool) → ((length bytes == 0) || nat_lt MAX_NAME (length bytes)) ≡ b → cond b (Some (length bytes)) (position (λ b. not (is_name_byte b)) bytes) ≡ None → IsName bytes
  go true e n = absurd cc
  go false e n = record {
    some = grind (arith, nat_tests);
    short = grind (arith, nat_tests);
    alphabet = all-from_none is_name_byte 0 bytes (sym (position_from-zero (λ b. not (is_name_byte b)) bytes) ∙ n);
  }

pub no_fault_of_a_name : (bytes : List ℕ) → IsName bytes → name_fault bytes ≡ None
no_fault_of_a_name bytes h =
    let few : ((length bytes == 0) || nat_lt MAX_NAME (length bytes)) ≡ false = let s = h.some in let t = h.short in grind (arith, nat_tests) in
    rw few (position_from-zero (λ b. not (is_name_byte b)) bytes ∙ none-from_all is_name_byte 0 bytes h.alphabet)

-- ---- a name is text

low_byte : (b : ℕ) → is_name_byte b ≡ true → b < 128
low_byte b h = grind (arith, nat_tests)

low_bytes : (bytes : List ℕ) → list_all is_name_byte bytes ≡ true → IsAscii bytes
low_bytes [] h i = IsAscii-nil i
low_bytes (b ∷ bs) h zero = low_byte b (left_of (is_name_byte b) (list_all is_name_byte bs) h)
low_bytes (b ∷ bs) h (suc i) = low_bytes bs (right_of (is_name_byte b) (list_all is_name_byte bs) h) i

pub name_is_text : (bytes : List ℕ) → IsName bytes → IsUtf8 bytes
name_is_text bytes h = IsUtf8-from_ascii bytes (low_bytes bytes h.alphabet)
