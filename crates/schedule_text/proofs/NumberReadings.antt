-- A number that is read is the one that is printed, and what is printed is read again.
use Rattle.std.proofs.Common.{◌≡◌, ℕ, ◌^◌, ◌<◌, ◌≤◌, Bool, true, List, [], ◌∷◌, length, Option, Ok, Err, refl, ◌∙◌, ap, subst, arith}
use Rattle.std.specs.Prelude.{nat_le, nat_lt, ◌==◌, ◌&&◌, decimal, if◌then◌else◌}
use Rattle.std.proofs.lemmas.Bool.{eqb-true}
use Rattle.std.proofs.lemmas.Bool.Decides.{nat_tests}
use Rattle.std.proofs.lemmas.List.{nil_from_length}
use Rattle.std.specs.Cmp.Lexicographic.{bytes_decides}
use Rattle.text_words.specs.declared.words.Reason.{Reason}
use Rattle.text_words.specs.declared.words.Reason.TheVariants as reasons
use Rattle.tcs_terms.specs.Setups.{has_node, is_node_of}
use Rattle.text_words.specs.PayloadWords.{fixed_word, all_read, number_word}
use Rattle.text_words.specs.Words.{begins, after}
use Rattle.tcs_terms.proofs.BoolLaws.{both}
use Rattle.text_words.proofs.WordReadings.{number_takes, number_again}
use Rattle.schedule_text.specs.Words.{fixed_at, end_at, number_at, between_at, is_for, caller_at, node_of_at, next_node_at}
use Rattle.text_words.specs.PayloadWords.{◌>>=◌}
use Rattle.schedule_text.proofs.Steps.{reasoned_ok}
use Rattle.text_words.proofs.Steps.{bind_ok, met}

-- ---- words that are fixed, and the end

pub begun : (word : List ℕ) (words : List (List ℕ)) → begins word words ≡ true → words ≡ word ∷ after words
begun word [] h = absurd cc
begun word (w ∷ ws) h = ap (λ (v : List ℕ). v ∷ ws) ((bytes_decides w word).0 h)

pub fixed_takes : (word : List ℕ) (words : List (List ℕ)) (x : Unit {0} × List (List ℕ)) → fixed_at word words ≡ Ok x → words ≡ word ∷ x.1
fixed_takes word words x h =
    let m = met (begins word words) _ (tt, after words) x (reasoned_ok (fixed_word word words) x h) in
    begun word words m.0 ∙ ap (λ (y : Unit {0} × List (List ℕ)). word ∷ y.1) m.1

pub end_takes : (words : List (List ℕ)) (x : Unit {0} × List (List ℕ)) → end_at words ≡ Ok x → words ≡ []
end_takes words x h =
    let m = met (length words == 0) _ (tt, words) x (reasoned_ok (all_read words) x h) in
    nil_from_length words (eqb-true _ _ m.0)

-- ---- numbers that pass a test

pub number_read : (words : List (List ℕ)) (x : ℕ × List (List ℕ)) → number_at words ≡ Ok x → (words ≡ decimal x.0 ∷ x.1) × (x.0 < 2 ^ 64)
number_read words x h = number_takes words x (reasoned_ok (number_word words) x h)

pub number_reads : (n : ℕ) (ws : List (List ℕ)) → n < 2 ^ 64 → number_at (decimal n ∷ ws) ≡ Ok (n, ws)
number_reads n ws small = rw (number_again n ws small) refl

pub record Number (test : ℕ → Bool) (words : List (List ℕ)) (x : ℕ × List (List ℕ)) : Type 0 where
  pub word : words ≡ decimal x.0 ∷ x.1
  pub small : x.0 < 2 ^ 64
  pub passes : test x.0 ≡ true

checked : (test : ℕ → Bool) (reason : Reason) (words : List (List ℕ)) (x : ℕ × List (List ℕ))
    → (number_at words >>= λ n. if test n.0 then Ok n else Err reason) ≡ Ok x → Number test words x
checked test reason words x h =
    let a = bind_ok (number_at words) _ x h in
    let t = number_read words a.0 a.1 in
    let m = met (test a.0.0) reason a.0 x a.2 in
    subst (Number test words) m.1 (record { word = t.0; small = t.1; passes = m.0 })

pub between_takes : (first last : ℕ) (words : List (List ℕ)) (x : ℕ × List (List ℕ)) → between_at first last words ≡ Ok x → Number (λ n. nat_le first n && nat_le n last) words x
unfolding between_at
between_takes first last words x h = checked (λ n. nat_le first n && nat_le n last) reasons.Range words x h

pub between_again : (first last n : ℕ) (ws : List (List ℕ)) → n < 2 ^ 64 → first ≤ n → n ≤ last → between_at first last (decimal n ∷ ws) ≡ Ok (n, ws)
unfolding between_at
between_again first last n ws small low high =
    let passes : (nat_le first n && nat_le n last) ≡ true = grind (arith, nat_tests) in
    rw (number_reads n ws small, passes) refl

pub caller_takes : (only : Option ℕ) (nodes : List ℕ) (words : List (List ℕ)) (x : ℕ × List (List ℕ)) → caller_at only nodes words ≡ Ok x → Number (λ n. has_node nodes n && is_for only n) words x
unfolding caller_at
caller_takes only nodes words x h = checked (λ n. has_node nodes n && is_for only n) reasons.Range words x h

pub caller_again : (only : Option ℕ) (nodes : List ℕ) (n : ℕ) (ws : List (List ℕ)) → n < 2 ^ 64 → has_node nodes n ≡ true → is_for only n ≡ true
    → caller_at only nodes (decimal n ∷ ws) ≡ Ok (n, ws)
unfolding caller_at
caller_again only nodes n ws small has is = rw (number_reads n ws small, both (has_node nodes n) (is_for only n) has is) refl

pub node_of_takes : (nodes : List ℕ) (shard : ℕ) (words : List (List ℕ)) (x : ℕ × List (List ℕ)) → node_of_at nodes shard words ≡ Ok x → Number (is_node_of nodes shard) words x
unfolding node_of_at
node_of_takes nodes shard words x h = checked (is_node_of nodes shard) reasons.Range words x h

pub node_of_again : (nodes : List ℕ) (shard n : ℕ) (ws : List (List ℕ)) → n < 2 ^ 64 → is_node_of nodes shard n ≡ true → node_of_at nodes shard (decimal n ∷ ws) ≡ Ok (n, ws)
unfolding node_of_at
node_of_again nodes shard n ws small is = rw (number_reads n ws small, is) refl

pub next_node_takes : (nodes : List ℕ) (shard last : ℕ) (words : List (List ℕ)) (x : ℕ × List (List ℕ)) → next_node_at nodes shard last words ≡ Ok x
    → Number (λ n. is_node_of nodes shard n && nat_lt last n) words x
unfolding next_node_at
next_node_takes nodes shard last words x h =
    let a = bind_ok (node_of_at nodes shard words) _ x h in
    let t = node_of_takes nodes shard words a.0 a.1 in
    let m = met (nat_lt last a.0.0) reasons.Order a.0 x a.2 in
    subst (Number (λ n. is_node_of nodes shard n && nat_lt last n) words) m.1 (record { word = t.word; small = t.small; passes = both (is_node_of nodes shard a.0.0) (nat_lt last a.0.0) t.passes m.0 })

pub next_node_again : (nodes : List ℕ) (shard last n : ℕ) (ws : List (List ℕ)) → n < 2 ^ 64 → is_node_of nodes shard n ≡ true → nat_lt last n ≡ true
    → next_node_at nodes shard last (decimal n ∷ ws) ≡ Ok (n, ws)
unfolding next_node_at
next_node_again nodes shard last n ws small is above = rw (node_of_again nodes shard n ws small is, above) refl
