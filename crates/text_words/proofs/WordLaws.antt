-- The words of a text, taken one after the other.
use Rattle.std.proofs.Common.{◌≡◌, ℕ, ◌+◌, ◌-◌, Bool, true, false, cond, List, [], ◌∷◌, length, take, drop, Some, None, refl, sym, ◌∙◌, ap, arith}
use Rattle.std.specs.Prelude.{position, ◌==◌, nat_lt, count_by}
use Rattle.std.specs.List.{position_or_len}
use Rattle.std.proofs.lemmas.Bool.{ltb-true, ltb-false}
use Rattle.std.proofs.lemmas.Bool.Decides.{nat_tests}
use Rattle.std.proofs.lemmas.List.Sums.{fails_before_first}
use Rattle.std.proofs.lemmas.List.{take_all, length-drop}
use Rattle.std.proofs.lemmas.List.Splits.{slice_split_none, slice_split_first, length-slice_split}
use Rattle.text_words.specs.Words.{words_of, words_unless, after}

pub count_of_words : (text : List ℕ) → length (words_of text) ≡ count_by (λ b. b == 32) text + 1
count_of_words text = length-slice_split (λ b. b == 32) text

-- a text without a space is one word
one_word : (text : List ℕ) → position (λ b. b == 32) text ≡ None → words_of text ≡ text ∷ []
one_word text h = go (nat_lt (position_or_len (λ b. b == 32) text) (length text)) refl h where
  go : (b : Bool) → nat_lt (position_or_len (λ b. b == 32) text) (length text) ≡ b → cond b (Some (position_or_len (λ b. b == 32) text)) None ≡ None → words_of text ≡ text ∷ []
  go true e n = absurd cc
  go false e n =
      let past = ltb-false _ _ e in
      slice_split_none (λ b. b == 32) text (λ k d lt. fails_before_first (λ b. b == 32) text k d (omega arith))

-- the first word of another ends at its first space
first_word : (text : List ℕ) (place : ℕ) → position (λ b. b == 32) text ≡ Some place → words_of text ≡ take place text ∷ words_of (drop (place + 1) text)
first_word text place h = go (nat_lt (position_or_len (λ b. b == 32) text) (length text)) refl h where
  go : (b : Bool) → nat_lt (position_or_len (λ b. b == 32) text) (length text) ≡ b → cond b (Some (position_or_len (λ b. b == 32) text)) None ≡ Some place → words_of text ≡ take place text ∷ words_of (drop (place + 1) text)
  go true e s =
      let at : position_or_len (λ b. b == 32) text ≡ place = cc in
      let lt = ltb-true _ _ e in
      let split = slice_split_first (λ b. b == 32) text 0 lt in
      rw at at split
  go false e s = absurd cc

pub is_done : (done : Bool) (text : List ℕ) → done ≡ (length (words_unless done text) == 0)
is_done true text = refl
is_done false text = let some = count_of_words text in grind (arith, nat_tests)

-- how many are left
pub count_left : (done : Bool) (text : List ℕ) → done ≡ false → length (words_unless done text) ≡ count_by (λ b. b == 32) text + 1
count_left true text e = absurd cc
count_left false text e = count_of_words text

pub takes_first : (done : Bool) (text : List ℕ) (place : ℕ) → done ≡ false → position (λ b. b == 32) text ≡ Some place
    → words_unless done text ≡ take place text ∷ words_unless done (take (length text - (place + 1)) (drop (place + 1) text))
takes_first true text place e h = absurd cc
takes_first false text place e h =
    let rest : take (length text - (place + 1)) (drop (place + 1) text) ≡ drop (place + 1) text = take_all (length text - (place + 1)) (drop (place + 1) text) (omega (arith, length-drop (place + 1) text)) in
    rw rest (first_word text place h)

pub takes_last : (done : Bool) (text : List ℕ) → done ≡ false → position (λ b. b == 32) text ≡ None → words_unless done text ≡ text ∷ []
takes_last true text e h = absurd cc
takes_last false text e h = one_word text h

and_after : (words : List (List ℕ)) (word : List ℕ) (others : List (List ℕ)) → words ≡ word ∷ others → words ≡ word ∷ after words
and_after words word others e = e ∙ ap (λ (ws : List (List ℕ)). word ∷ ws) (sym (ap after e))

pub sees_first : (done : Bool) (text : List ℕ) (place : ℕ) → done ≡ false → position (λ b. b == 32) text ≡ Some place → words_unless done text ≡ take place text ∷ after (words_unless done text)
sees_first done text place e h = and_after (words_unless done text) _ _ (takes_first done text place e h)

pub sees_last : (done : Bool) (text : List ℕ) → done ≡ false → position (λ b. b == 32) text ≡ None → words_unless done text ≡ text ∷ after (words_unless done text)
sees_last done text e h = and_after (words_unless done text) _ _ (takes_last done text e h)
