-- The words of a text, one after the other, as numbers.
use Rattle.std.proofs.Common.{◌≡◌, ℕ, ◌+◌, ◌-◌, Bool, true, false, cond, List, [], ◌∷◌, ◌++◌, length, take, drop, Option, Some, None, refl, sym, ◌∙◌, ap, append_assoc, arith}
use Rattle.std.specs.Prelude.{position, ◌==◌, nat_lt}
use Rattle.std.specs.List.{position_or_len}
use Rattle.std.specs.Option.{option_map}
use Rattle.std.proofs.lemmas.Bool.{ltb-true, ltb-false}
use Rattle.std.proofs.lemmas.List.{take_all, length-drop}
use Rattle.std.proofs.lemmas.List.Sums.{fails_before_first}
use Rattle.std.proofs.lemmas.List.Splits.{slice_split_none, slice_split_first}
use Rattle.text_words.specs.PayloadWords.{number_in}
use Rattle.text_words.specs.Words.{words_of}
use Rattle.quorum_config.specs.Readings.{◌>>=◌, each_number, parts_in, line_parts}

-- ---- words

-- a text without a space is one word
pub one_word : (text : List ℕ) → position (λ b. b == 32) text ≡ None → words_of text ≡ text ∷ []
one_word text h = go (nat_lt (position_or_len (λ b. b == 32) text) (length text)) refl h where
  go : (b : Bool) → nat_lt (position_or_len (λ b. b == 32) text) (length text) ≡ b → cond b (Some (position_or_len (λ b. b == 32) text)) None ≡ None → words_of text ≡ text ∷ []
  go true e n = absurd cc
  go false e n =
      let past = ltb-false _ _ e in
      slice_split_none (λ b. b == 32) text (λ k d lt. fails_before_first (λ b. b == 32) text k d (omega arith))

-- the first word of another ends at its first space, and the others follow it
pub first_word : (text : List ℕ) (place : ℕ) → position (λ b. b == 32) text ≡ Some place → words_of text ≡ take place text ∷ words_of (take (length text - (place + 1)) (drop (place + 1) text))
first_word text place h = go (nat_lt (position_or_len (λ b. b == 32) text) (length text)) refl h where
  go : (b : Bool) → nat_lt (position_or_len (λ b. b == 32) text) (length text) ≡ b → cond b (Some (position_or_len (λ b. b == 32) text)) None ≡ Some place
      → words_of text ≡ take place text ∷ words_of (take (length text - (place + 1)) (drop (place + 1) text))
  go true e s =
      let at : position_or_len (λ b. b == 32) text ≡ place = cc in
      let lt = ltb-true _ _ e in
      let split = slice_split_first (λ b. b == 32) text 0 lt in
      let rest : take (length text - (place + 1)) (drop (place + 1) text) ≡ drop (place + 1) text = take_all (length text - (place + 1)) (drop (place + 1) text) (omega (arith, length-drop (place + 1) text)) in
      rw rest (rw at at split)
  go false e s = absurd cc

-- ---- numbers

-- numbers that were read, before those that are still to be
abbrev pub before : List ℕ → Option (List ℕ) → Option (List ℕ)
before first others = option_map (λ ts. first ++ ts) others

pub before_none : (o : Option (List ℕ)) → before [] o ≡ o
before_none None = refl
before_none (Some ts) = refl

-- one more word was read
pub one_more : (left word more : List ℕ) (t : ℕ) (first : List ℕ) → words_of left ≡ word ∷ words_of more → number_in word ≡ Some t
    → before first (each_number (words_of left)) ≡ before (first ++ t ∷ []) (each_number (words_of more))
unfolding each_number
one_more left word more t first words r = rw (words, r) (shift (each_number (words_of more))) where
  shift : (o : Option (List ℕ)) → before first (o >>= λ ts. Some (t ∷ ts)) ≡ before (first ++ t ∷ []) o
  shift None = refl
  shift (Some ts) = ap Some (sym (append_assoc first (t ∷ []) ts))

-- the last word was read
pub last_one : (left : List ℕ) (t : ℕ) (first : List ℕ) → words_of left ≡ left ∷ [] → number_in left ≡ Some t → before first (each_number (words_of left)) ≡ Some (first ++ t ∷ [])
unfolding each_number
last_one left t first words r = rw (words, r) refl

-- a word is none
pub none_of_words : (left word : List ℕ) (more : List (List ℕ)) (first : List ℕ) → words_of left ≡ word ∷ more → number_in word ≡ None → before first (each_number (words_of left)) ≡ None
unfolding each_number
none_of_words left word more first words r = rw (words, r) refl

-- ---- lines

-- a line of one word has no numbers
pub one_part : (line : List ℕ) → words_of line ≡ line ∷ [] → ◌≡◌ {A = Option (List ℕ × List ℕ)} (Some (line, [])) (line_parts line)
unfolding line_parts each_number
one_part line one = sym (ap parts_in one)
