-- Orders: what is read is spelled so, and what is spelled so is read.
use Rattle.std.proofs.Common.{◌≡◌, inl, inr, ℕ, Bool, true, false, cond, List, [], ◌∷◌, ◌++◌, map, Some, refl, sym, ap, subst, ◌∙◌, arith}
use Rattle.std.specs.Prelude.{◌==◌, codes}
use Rattle.std.specs.List.{list_all, join_with_byte, onto_first}
use Rattle.std.proofs.lemmas.List.{append-nil}
use Rattle.std.proofs.lemmas.List.Splits.{join_with_byte-slice_split}
use Rattle.tcs_terms.specs.declared.ids.TxId.{TxId}
use Rattle.tcs_terms.specs.Messages.{is_txn}
use Rattle.text_words.specs.Words.{words_of}
use Rattle.tcs_terms.proofs.BoolLaws.{both, left_of, right_of}
use Rattle.text_words.specs.Texts.{txn_text}
use Rattle.trace_text.specs.Texts.{order_text}
use Rattle.trace_text.specs.Words.{cut, is_word, txn_in, each_txn}
use Rattle.trace_text.specs.Readings.{order_in}
use Rattle.trace_text.proofs.Steps.{bind_some, some_is, either}
use Rattle.trace_text.proofs.WordLists.{words_of_two, words_of_one}
use Rattle.trace_text.proofs.PlainWords.{word_is, txn_takes, txn_again, txn_lacks}

-- ---- words that are transactions

each_takes : (words : List (List ℕ)) (ts : List TxId) → each_txn words ≡ Some ts → (words ≡ map txn_text ts) × (list_all is_txn ts ≡ true)
unfolding each_txn
each_takes [] ts h = subst (λ (us : List TxId). ([] ≡ map txn_text us) × (list_all is_txn us ≡ true)) (some_is [] ts h) (refl, refl)
each_takes (w ∷ ws) ts h =
    let first = bind_some (txn_in w) _ ts h in
    let others = bind_some (each_txn ws) _ ts first.2 in
    let t = txn_takes w first.0 first.1 in
    let more = each_takes ws others.0 others.1 in
    subst (λ (us : List TxId). (w ∷ ws ≡ map txn_text us) × (list_all is_txn us ≡ true)) (some_is (first.0 ∷ others.0) ts others.2)
    (ap (λ (v : List ℕ). v ∷ ws) t.0 ∙ ap (λ (vs : List (List ℕ)). txn_text first.0 ∷ vs) more.0, both (is_txn first.0) (list_all is_txn others.0) t.1 more.1)

each_again : (ts : List TxId) → list_all is_txn ts ≡ true → each_txn (map txn_text ts) ≡ Some ts
unfolding each_txn
each_again [] h = refl
each_again (t ∷ ts) h = rw (txn_again t (left_of (is_txn t) (list_all is_txn ts) h), each_again ts (right_of (is_txn t) (list_all is_txn ts) h)) refl

-- ---- their text

joined : (t : TxId) (ts : List TxId) → join_with_byte 32 (map txn_text (t ∷ ts)) ≡ order_text (t ∷ ts)
joined t [] = sym (append-nil (txn_text t))
joined t (u ∷ us) = ap (λ (v : List ℕ). txn_text t ++ 32 ∷ v) (joined u us)

order_words : (t : TxId) (ts : List TxId) → list_all is_txn (t ∷ ts) ≡ true → words_of (order_text (t ∷ ts)) ≡ map txn_text (t ∷ ts)
order_words t [] h = ap words_of (append-nil (txn_text t)) ∙ words_of_one (txn_text t) (txn_lacks 32 t (omega arith) (left_of (is_txn t) true h))
order_words t (u ∷ us) h =
    words_of_two (txn_text t) (order_text (u ∷ us)) (txn_lacks 32 t (omega arith) (left_of (is_txn t) (list_all is_txn (u ∷ us)) h))
    ∙ ap (λ (vs : List (List ℕ)). txn_text t ∷ vs) (order_words u us (right_of (is_txn t) (list_all is_txn (u ∷ us)) h))

-- ---- orders

-- a text has a word
no_words : (text : List ℕ) → words_of text ≡ [] → ⊥
no_words [] h = absurd cc
no_words (b ∷ text) h = go (b == 32) (words_of text) h where
  go : (t : Bool) (ws : List (List ℕ)) → cond t ([] ∷ ws) (onto_first b ws) ≡ [] → ⊥
  go true ws e = absurd cc
  go false [] e = absurd cc
  go false (w ∷ ws) e = absurd cc

pub order_takes : (text : List ℕ) (order : List TxId) → order_in text ≡ Some order → (text ≡ order_text order) × (list_all is_txn order ≡ true)
unfolding order_in
order_takes text order h = elim (either (is_word (codes "-") text) (Some []) _ order h) [
  | inl a ↦ subst (λ (ts : List TxId). (text ≡ order_text ts) × (list_all is_txn ts ≡ true)) (some_is [] order a.1) (word_is (codes "-") text a.0, refl)
  | inr b ↦ (let e = each_takes (words_of text) order b.1 in (spelled order e.0, e.1))
] where
  spelled : (ts : List TxId) → words_of text ≡ map txn_text ts → text ≡ order_text ts
  spelled [] e = absurd (no_words text e)
  spelled (t ∷ ts) e = sym (join_with_byte-slice_split 32 text) ∙ ap (join_with_byte 32) e ∙ joined t ts

first_of : (a b : List ℕ) (bs : List (List ℕ)) → a ∷ [] ≡ b ∷ bs → a ≡ b
first_of a b bs e = cc

-- a dash is no transaction
no_dash : (t : TxId) → txn_in (codes "-") ≡ Some t → ⊥
unfolding txn_in cut
no_dash t e = absurd cc

pub order_again : (order : List TxId) → list_all is_txn order ≡ true → order_in (order_text order) ≡ Some order
unfolding order_in
order_again [] h = refl
order_again (t ∷ ts) h = go (is_word (codes "-") (order_text (t ∷ ts))) refl where
  no_txn : (u : TxId) (us : List TxId) → codes "-" ∷ [] ≡ map txn_text (u ∷ us) → list_all is_txn (u ∷ us) ≡ true → ⊥
  no_txn u us e k = let dash : codes "-" ≡ txn_text u = first_of (codes "-") (txn_text u) (map txn_text us) e in
      no_dash u (ap txn_in dash ∙ txn_again u (left_of (is_txn u) (list_all is_txn us) k))

  go : (b : Bool) → is_word (codes "-") (order_text (t ∷ ts)) ≡ b → cond b (Some []) (each_txn (words_of (order_text (t ∷ ts)))) ≡ Some (t ∷ ts)
  go true e = absurd (no_txn t ts (sym (ap words_of (word_is (codes "-") (order_text (t ∷ ts)) e)) ∙ order_words t ts h) h)
  go false e = ap each_txn (order_words t ts h) ∙ each_again (t ∷ ts) h
