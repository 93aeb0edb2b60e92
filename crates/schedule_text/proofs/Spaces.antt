-- Words without a space, and texts that are words with a byte between them.
use Rattle.std.proofs.Common.{◌≡◌, ℕ, zero, suc, ◌+◌, ◌^◌, ◌<◌, Bool, true, false, not, cond, List, [], ◌∷◌, ◌++◌, length, map, take, drop, All, Some, None, refl, sym, ◌∙◌, ap, arith}
use Rattle.std.specs.Prelude.{position, nat_lt, ◌==◌, decimal}
use Rattle.std.specs.Char.{is_ascii_digit}
use Rattle.std.specs.List.{list_all, position_or_len, slice_split, join_with_byte}
use Rattle.std.proofs.lemmas.Bool.{ltb-true}
use Rattle.std.proofs.lemmas.Bool.Decides.{nat_tests}
use Rattle.std.proofs.lemmas.Fmt.{digits_decimal}
use Rattle.std.proofs.lemmas.List.{append-nil, length-append}
use Rattle.std.proofs.lemmas.List.Splits.{slice_split_none, slice_split_at, slice_split_first, length-slice_split, join_with_byte-slice_split}
use Rattle.tcs_terms.specs.Objects.{is_name_byte, IsName}
use Rattle.text_words.specs.Words.{words_of}
use Rattle.tcs_terms.proofs.BoolLaws.{both, left_of, right_of}
use Rattle.text_words.proofs.NumberLaws.{numerals}
use Rattle.schedule_text.specs.Text.{numbers_text}

-- ---- words without a byte

abbrev pub is_free : ℕ → ℕ → Bool
is_free c b = not (b == c)

-- this byte is not in the word
abbrev pub Free : ℕ → List ℕ → Type 0
Free c w = list_all (is_free c) w ≡ true

pub weaker : (f g : ℕ → Bool) → ((b : ℕ) → f b ≡ true → g b ≡ true) → (w : List ℕ) → list_all f w ≡ true → list_all g w ≡ true
weaker f g step [] h = refl
weaker f g step (b ∷ bs) h = both (g b) (list_all g bs) (step b (left_of (f b) (list_all f bs) h)) (weaker f g step bs (right_of (f b) (list_all f bs) h))

pub free_at : (c : ℕ) (w : List ℕ) → Free c w → All (λ b. (b == c) ≡ false) w
free_at c [] h k d lt = absurd (omega arith)
free_at c (b ∷ bs) h zero d lt = let first = left_of (is_free c b) (list_all (is_free c) bs) h in grind (arith, nat_tests)
free_at c (b ∷ bs) h (suc k) d lt = free_at c bs (right_of (is_free c b) (list_all (is_free c) bs) h) k d (omega arith)

digit_is_free : (c b : ℕ) → c < 48 → is_ascii_digit b ≡ true → is_free c b ≡ true
digit_is_free c b low h = grind (arith, nat_tests)

name_byte_is_free : (c b : ℕ) → c < 48 → is_name_byte b ≡ true → is_free c b ≡ true
name_byte_is_free c b low h = grind (arith, nat_tests)

pub free_decimal : (c n : ℕ) → c < 48 → n < 2 ^ 64 → Free c (decimal n)
free_decimal c n low small = weaker is_ascii_digit (is_free c) (λ b h. digit_is_free c b low h) (decimal n) (digits_decimal numerals n small)

pub free_name : (c : ℕ) (w : List ℕ) → c < 48 → IsName w → Free c w
free_name c w low h = weaker is_name_byte (is_free c) (λ b h. name_byte_is_free c b low h) w h.alphabet

pub free_append : (c : ℕ) (v w : List ℕ) → Free c v → Free c w → Free c (v ++ w)
free_append c [] w p q = q
free_append c (b ∷ bs) w p q =
    both (is_free c b) (list_all (is_free c) (bs ++ w)) (left_of (is_free c b) (list_all (is_free c) bs) p) (free_append c bs w (right_of (is_free c b) (list_all (is_free c) bs) p) q)

-- ---- where a byte stands first

no_space_before : (c : ℕ) (w more : List ℕ) → Free c w → position_or_len (λ b. b == c) (w ++ c ∷ more) ≡ length w
no_space_before c [] more h = let e : (c == c) ≡ true = grind (arith, nat_tests) in rw e refl
no_space_before c (b ∷ bs) more h =
    let other : (b == c) ≡ false = free_at c (b ∷ bs) h 0 b (omega arith) in
    let rest = no_space_before c bs more (right_of (is_free c b) (list_all (is_free c) bs) h) in
    rw (other, rest) (omega arith)

pub first_place : (c : ℕ) (w more : List ℕ) → Free c w → position (λ b. b == c) (w ++ c ∷ more) ≡ Some (length w)
first_place c w more h =
    let at = no_space_before c w more h in
    let within : nat_lt (length w) (length (w ++ c ∷ more)) ≡ true = let n = length-append w (c ∷ more) in grind (arith, nat_tests) in
    rw (at, within) refl

join_of_parts : (c : ℕ) (front rest : List ℕ) (parts : List (List ℕ)) → slice_split (λ b. b == c) rest ≡ parts → join_with_byte c (front ∷ parts) ≡ front ++ c ∷ rest
join_of_parts c front rest [] e =
    let many = length-slice_split (λ b. b == c) rest in
    let none : length (slice_split (λ b. b == c) rest) ≡ 0 = ap length e in
    absurd (omega arith)
join_of_parts c front rest (p ∷ ps) e = ap (λ (t : List ℕ). front ++ c ∷ t) (ap (join_with_byte c) (sym e) ∙ join_with_byte-slice_split c rest)

-- a text is cut at the first place of a byte
pub split_at_first : (c : ℕ) (text : List ℕ) (place : ℕ) → position (λ b. b == c) text ≡ Some place → text ≡ take place text ++ c ∷ drop (place + 1) text
split_at_first c text place h = go (nat_lt (position_or_len (λ b. b == c) text) (length text)) refl h where
  go : (b : Bool) → nat_lt (position_or_len (λ b. b == c) text) (length text) ≡ b → cond b (Some (position_or_len (λ b. b == c) text)) None ≡ Some place → text ≡ take place text ++ c ∷ drop (place + 1) text
  go true e s =
      let at : position_or_len (λ b. b == c) text ≡ place = cc in
      let split = slice_split_first (λ b. b == c) text 0 (ltb-true _ _ e) in
      sym (join_with_byte-slice_split c text) ∙ ap (join_with_byte c) (rw at at split) ∙ join_of_parts c (take place text) (drop (place + 1) text) _ refl
  go false e s = absurd cc

-- ---- words with a space between them

pub words_then : (w rest : List ℕ) → Free 32 w → words_of (w ++ 32 ∷ rest) ≡ w ∷ words_of rest
words_then w rest h = slice_split_at (λ b. b == 32) w 32 rest (free_at 32 w h) refl

pub word_alone : (w : List ℕ) → Free 32 w → words_of w ≡ w ∷ []
word_alone w h = slice_split_none (λ b. b == 32) w (free_at 32 w h)

-- a word, and numbers with a space before each
pub words_of_numbers : (w : List ℕ) (ns : List ℕ) → Free 32 w → All (λ n. n < 2 ^ 64) ns → words_of (w ++ numbers_text ns) ≡ w ∷ map decimal ns
words_of_numbers w [] h small = ap words_of (append-nil w) ∙ word_alone w h
words_of_numbers w (n ∷ ns) h small =
    words_then w (decimal n ++ numbers_text ns) h
    ∙ ap (λ (ws : List (List ℕ)). w ∷ ws) (words_of_numbers (decimal n) ns (free_decimal 32 n (omega arith) (small 0 n (omega arith))) (λ k d lt. small (suc k) d (omega arith)))

-- a text is known by its words
pub same_words : (text other : List ℕ) → words_of text ≡ words_of other → text ≡ other
same_words text other e = sym (join_with_byte-slice_split 32 text) ∙ ap (join_with_byte 32) e ∙ join_with_byte-slice_split 32 other
