-- A transaction that is read is the one that is printed, and what is printed is read again.
use Rattle.std.proofs.Common.{◌≡◌, ℕ, ◌+◌, ◌^◌, ◌<◌, Bool, true, false, not, cond, List, [], ◌∷◌, ◌++◌, length, take, drop, Option, Some, None, Ok, refl, sym, ◌∙◌, ap, subst, append_assoc, arith}
use Rattle.std.specs.Prelude.{position, nat_le, nat_lt, ◌==◌, ◌&&◌, ◌||◌, decimal}
use Rattle.std.specs.List.{list_all}
use Rattle.std.specs.Str.Parse.{digits_value}
use Rattle.std.proofs.lemmas.Bool.Decides.{nat_tests}
use Rattle.std.proofs.lemmas.List.{length-append, take_at, drop_at}
use Rattle.tcs_terms.specs.declared.ids.TxId.{TxId}
use Rattle.tcs_terms.specs.declared.limits.TheConstants.{MAX_SEQUENCE}
use Rattle.text_words.specs.declared.words.Reason.TheVariants as reasons
use Rattle.text_words.specs.PayloadWords.{is_numeral, is_printable, misfit, number_in, number_or, number_word}
use Rattle.tcs_terms.specs.Setups.{has_node}
use Rattle.tcs_terms.proofs.BoolLaws.{left_of, right_of}
use Rattle.text_words.proofs.WordReadings.{number_takes, number_again}
use Rattle.text_words.specs.Texts.{txn_text}
use Rattle.schedule_text.specs.Words.{txn_numbers, txn_parts, txn_in, txn_at}
use Rattle.text_words.proofs.Steps.{bind_ok, ok_is, met, chosen}
use Rattle.schedule_text.proofs.Spaces.{free_decimal, first_place, split_at_first}

abbrev pub may_be : List ℕ → TxId → Bool
may_be nodes t = has_node nodes t.home && (nat_le 1 t.seq && nat_le t.seq MAX_SEQUENCE)

-- ---- the numbers of a transaction

head_is : (v w : List ℕ) (vs ws : List (List ℕ)) → v ∷ vs ≡ w ∷ ws → v ≡ w
head_is v w vs ws e = cc

number_in_takes : (word : List ℕ) (n : ℕ) → number_in word ≡ Some n → word ≡ decimal n
unfolding number_word
number_in_takes word n h = head_is word (decimal n) [] [] (number_takes (word ∷ []) (n, []) (rw h refl)).0

form_of : (word : List ℕ) (n : ℕ) → number_in word ≡ Some n → is_numeral word ≡ true
form_of word n h = go (is_numeral word) (nat_lt (digits_value 10 word) (2 ^ 64)) refl h where
  go : (a b : Bool) → is_numeral word ≡ a → cond (a && b) (Some (digits_value 10 word)) None ≡ Some n → is_numeral word ≡ true
  go true b e s = e
  go false b e s = absurd cc

number_in_again : (n : ℕ) → n < 2 ^ 64 → number_in (decimal n) ≡ Some n
unfolding number_word
number_in_again n small = go (number_in (decimal n)) refl (number_again n [] small) where
  first_is : (m : ℕ) → number_or (Some m) (decimal n) [] ≡ Ok (n, []) → m ≡ n
  first_is m e = let pairs : ◌≡◌ {A = ℕ × List (List ℕ)} (m, []) (n, []) = cc in ap (λ (x : ℕ × List (List ℕ)). x.0) pairs

  refused : (b : Bool) → cond b (misfit {A = ℕ × List (List ℕ)} reasons.Word 1) (misfit reasons.Number 1) ≡ Ok (n, []) → ⊥
  refused true e = absurd cc
  refused false e = absurd cc

  go : (o : Option ℕ) → number_in (decimal n) ≡ o → number_or o (decimal n) [] ≡ Ok (n, []) → number_in (decimal n) ≡ Some n
  go (Some m) e k = e ∙ ap Some (first_is m k)
  go None e k = absurd (refused ((length (decimal n) == 0) || not (list_all is_printable (decimal n))) k)

numbers_take : (nodes : List ℕ) (h s : Option ℕ) (t : TxId) → txn_numbers nodes h s ≡ Ok t → (h ≡ Some t.home) × (s ≡ Some t.seq) × (may_be nodes t ≡ true)
numbers_take nodes None s t e = absurd cc
numbers_take nodes (Some h) None t e = absurd cc
numbers_take nodes (Some h) (Some s) t e =
    let made : TxId = record { home = h; seq = s } in
    let m = met (may_be nodes made) reasons.Range made t e in
    subst (λ (u : TxId). (Some h ≡ Some u.home) × (Some s ≡ Some u.seq) × (may_be nodes u ≡ true)) m.1 (refl, refl, m.0)

parts_take : (nodes home seq : List ℕ) (t : TxId) → txn_parts nodes home seq ≡ Ok t → (home ≡ decimal t.home) × (seq ≡ decimal t.seq) × (may_be nodes t ≡ true)
parts_take nodes home seq t e =
    let c = chosen (is_numeral home && is_numeral seq) reasons.Word (txn_numbers nodes (number_in home) (number_in seq)) t e in
    let n = numbers_take nodes (number_in home) (number_in seq) t c.1 in
    (number_in_takes home t.home n.0, number_in_takes seq t.seq n.1, n.2)

in_takes : (nodes word : List ℕ) (dot : Option ℕ) (t : TxId) → position (λ b. b == 46) word ≡ dot → txn_in nodes word dot ≡ Ok t → (word ≡ txn_text t) × (may_be nodes t ≡ true)
in_takes nodes word None t at e = absurd cc
in_takes nodes word (Some dot) t at e =
    let p = parts_take nodes (take dot word) (drop (dot + 1) word) t e in
    (split_at_first 46 word dot at ∙ ap (λ (v : List ℕ). v ++ 46 ∷ drop (dot + 1) word) p.0 ∙ ap (λ (v : List ℕ). decimal t.home ++ 46 ∷ v) p.1, p.2)

pub txn_takes : (nodes : List ℕ) (words : List (List ℕ)) (x : TxId × List (List ℕ)) → txn_at nodes words ≡ Ok x → (words ≡ txn_text x.0 ∷ x.1) × (may_be nodes x.0 ≡ true)
unfolding txn_at
txn_takes nodes [] x e = absurd cc
txn_takes nodes (w ∷ ws) x e =
    let a = bind_ok (txn_in nodes w (position (λ b. b == 46) w)) _ x e in
    let t = in_takes nodes w (position (λ b. b == 46) w) a.0 refl a.1 in
    subst (λ (y : TxId × List (List ℕ)). (w ∷ ws ≡ txn_text y.0 ∷ y.1) × (may_be nodes y.0 ≡ true)) (ok_is (a.0, ws) x a.2) (ap (λ (v : List ℕ). v ∷ ws) t.0, t.1)

pub small_txn : (nodes : List ℕ) (t : TxId) → length nodes < 2 ^ 64 → may_be nodes t ≡ true → (t.home < 2 ^ 64) × (t.seq < 2 ^ 64)
small_txn nodes t few h =
    let home = left_of (has_node nodes t.home) (nat_le 1 t.seq && nat_le t.seq MAX_SEQUENCE) h in
    let seq = right_of (has_node nodes t.home) (nat_le 1 t.seq && nat_le t.seq MAX_SEQUENCE) h in
    (grind (arith, nat_tests), grind (arith, nat_tests))

past : (front rest : List ℕ) → drop (length front + 1) (front ++ 46 ∷ rest) ≡ rest
past front rest =
    let n : length (front ++ 46 ∷ []) ≡ length front + 1 = length-append front (46 ∷ []) in
    ap (drop (length front + 1)) (sym (append_assoc front (46 ∷ []) rest)) ∙ drop_at (front ++ 46 ∷ []) rest (length front + 1) n

pub txn_again : (nodes : List ℕ) (t : TxId) (ws : List (List ℕ)) → length nodes < 2 ^ 64 → may_be nodes t ≡ true → txn_at nodes (txn_text t ∷ ws) ≡ Ok (t, ws)
unfolding txn_at
txn_again nodes t ws few h =
    let small = small_txn nodes t few h in
    let place = first_place 46 (decimal t.home) (decimal t.seq) (free_decimal 46 t.home (omega arith) small.0) in
    let front : take (length (decimal t.home)) (txn_text t) ≡ decimal t.home = take_at (decimal t.home) (46 ∷ decimal t.seq) (length (decimal t.home)) refl in
    let back : drop (length (decimal t.home) + 1) (txn_text t) ≡ decimal t.seq = past (decimal t.home) (decimal t.seq) in
    let home = number_in_again t.home small.0 in
    let seq = number_in_again t.seq small.1 in
    let parts : txn_parts nodes (decimal t.home) (decimal t.seq) ≡ Ok t = rw (home, seq, form_of (decimal t.home) t.home home, form_of (decimal t.seq) t.seq seq, h) refl in
    rw (place, front, back, parts) refl
