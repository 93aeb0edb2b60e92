-- Notes: what is read is spelled so, and what is spelled so is read.
use Rattle.std.proofs.Common.{◌≡◌, inl, inr, ℕ, ◌^◌, ◌<◌, true, cond, List, ◌∷◌, ◌++◌, length, Some, None, Result, Ok, Err, refl, sym, ap, subst, ◌∙◌, append_assoc, arith}
use Rattle.std.specs.Prelude.{codes, decimal}
use Rattle.std.specs.Result.{result_ok}
use Rattle.tcs_terms.specs.declared.ids.TxId.{TxId}
use Rattle.tcs_terms.specs.declared.inputs.Note.{Note}
use Rattle.tcs_terms.specs.declared.inputs.Note.TheVariants as notes
use Rattle.tcs_terms.specs.declared.votes.Decision.{Decision}
use Rattle.tcs_terms.specs.Payloads.{Accesses, IsPayload}
use Rattle.text_words.specs.PayloadText.{payload_text, value_text}
use Rattle.text_words.specs.PayloadWords.{Misfit, FitsVersion, number_in, payload_at, numbered, reading}
use Rattle.text_words.specs.HexWords.{value_in}
use Rattle.text_words.specs.Words.{words_of}
use Rattle.text_words.proofs.PayloadReadings.{payload_takes}
use Rattle.text_words.proofs.PayloadSpelling.{text_of_words, text_read_again}
use Rattle.text_words.proofs.ValueLaws.{value_in_takes, value_in_again}
use Rattle.text_words.specs.Texts.{txn_text}
use Rattle.trace_text.specs.Texts.{decision_text, note_text}
use Rattle.trace_text.specs.declared.stages.LineForm.TheVariants as forms
use Rattle.trace_text.specs.Stages.{allows}
use Rattle.trace_text.specs.Lines.{IsNote, Standing}
use Rattle.trace_text.specs.Words.{cut, is_word, txn_in}
use Rattle.text_words.specs.PayloadWords.{name_in}
use Rattle.trace_text.specs.Readings.{begin_in, take_in, read_in, decide_in, decision_in, note_in, note_of, line_of}
use Rattle.trace_text.proofs.Steps.{bind_some, some_is, either}
use Rattle.trace_text.proofs.Cuts.{lacks, cut_takes, cut_again}
use Rattle.text_words.proofs.WordReadings.{number_in_takes, number_in_again}
use Rattle.trace_text.proofs.PlainWords.{word_is, decimal_lacks, name_lacks, txn_takes, txn_again, txn_lacks}
use Rattle.text_words.proofs.WordReadings.{name_in_takes, name_in_again}
use Rattle.trace_text.proofs.DecisionWords.{decision_takes, decision_again}

-- ---- payloads

pub payload_read : (version : ℕ) (text : List ℕ) (p : Accesses) → result_ok (reading version text) ≡ Some p
    → (text ≡ payload_text p) × IsPayload p × FitsVersion version p
payload_read version text p h =
    let t = payload_takes version (words_of text) p (is_read (payload_at version (words_of text)) h) in
    (text_of_words text p t.0, t.1, t.2) where
      is_read : (r : Result Accesses Misfit) → result_ok (numbered (length (words_of text)) r) ≡ Some p → r ≡ Ok p
      is_read (Ok q) e = cc
      is_read (Err m) e = absurd cc

pub payload_again : (version : ℕ) (p : Accesses) → IsPayload p → FitsVersion version p → result_ok (reading version (payload_text p)) ≡ Some p
payload_again version p h fits = rw (text_read_again version (payload_text p) p h fits refl) refl

-- ---- the parts of the texts

begin_parts : (txn : TxId) (p : Accesses) → note_text (notes.Begin txn p) ≡ codes "begin" ++ 32 ∷ (txn_text txn ++ 32 ∷ payload_text p)
begin_parts txn p = simp append_assoc

read_parts : (name : List ℕ) (version : ℕ) (value : List ℕ)
    → note_text (notes.ReadValue name version value) ≡ codes "read" ++ 32 ∷ (name ++ 32 ∷ (decimal version ++ 32 ∷ value_text value))
read_parts name version value = simp append_assoc

decide_parts : (txn : TxId) (d : Decision) → note_text (notes.Decide txn d) ≡ codes "decide" ++ 32 ∷ (txn_text txn ++ 32 ∷ decision_text d)
decide_parts txn d = simp append_assoc

-- what is known of a note that was read behind its first word
record Read (version shards : ℕ) (word text : List ℕ) (n : Note) : Type 0 where
  spelled : word ++ 32 ∷ text ≡ note_text n
  is_note : IsNote version shards n

-- ---- what is read

begin_takes : (version shards : ℕ) (text : List ℕ) (n : Note) → begin_in version text ≡ Some n → Read version shards (codes "begin") text n
unfolding begin_in
begin_takes version shards text n h =
    let words = bind_some (cut 32 text) _ n h in
    let txn = bind_some (txn_in words.0.0) _ n words.2 in
    let payload = bind_some (result_ok (reading version words.0.1)) _ n txn.2 in
    let c = cut_takes 32 text words.0 words.1 in
    let t = txn_takes words.0.0 txn.0 txn.1 in
    let p = payload_read version words.0.1 payload.0 payload.1 in
    subst (Read version shards (codes "begin") text) (some_is (notes.Begin txn.0 payload.0) n payload.2) (record {
      spelled = ap (λ (v : List ℕ). codes "begin" ++ 32 ∷ v) (c.whole ∙ ap (λ (v : List ℕ). v ++ 32 ∷ words.0.1) t.0 ∙ ap (λ (v : List ℕ). txn_text txn.0 ++ 32 ∷ v) p.0) ∙ sym (begin_parts txn.0 payload.0);
      is_note = (t.1, p.1, p.2);
    })

take_takes : (version shards : ℕ) (text : List ℕ) (n : Note) → take_in text ≡ Some n → Read version shards (codes "take") text n
unfolding take_in
take_takes version shards text n h =
    let txn = bind_some (txn_in text) _ n h in
    let t = txn_takes text txn.0 txn.1 in
    subst (Read version shards (codes "take") text) (some_is (notes.Take txn.0) n txn.2) (record {
      spelled = ap (λ (v : List ℕ). codes "take" ++ 32 ∷ v) t.0;
      is_note = t.1;
    })

read_takes : (version shards : ℕ) (text : List ℕ) (n : Note) → read_in text ≡ Some n → Read version shards (codes "read") text n
unfolding read_in
read_takes version shards text n h =
    let words = bind_some (cut 32 text) _ n h in
    let others = bind_some (cut 32 words.0.1) _ n words.2 in
    let name = bind_some (name_in words.0.0) _ n others.2 in
    let seen = bind_some (number_in others.0.0) _ n name.2 in
    let value = bind_some (value_in others.0.1) _ n seen.2 in
    let c = cut_takes 32 text words.0 words.1 in
    let o = cut_takes 32 words.0.1 others.0 others.1 in
    let m = name_in_takes words.0.0 name.0 name.1 in
    let s = number_in_takes others.0.0 seen.0 seen.1 in
    let v = value_in_takes others.0.1 value.0 value.1 in
    subst (Read version shards (codes "read") text) (some_is (notes.ReadValue name.0 seen.0 value.0) n value.2) (record {
      spelled = ap (λ (x : List ℕ). codes "read" ++ 32 ∷ x) (c.whole ∙ ap (λ (x : List ℕ). x ++ 32 ∷ words.0.1) m.0 ∙ ap (λ (x : List ℕ). name.0 ++ 32 ∷ x)
          (o.whole ∙ ap (λ (x : List ℕ). x ++ 32 ∷ others.0.1) s.0 ∙ ap (λ (x : List ℕ). decimal seen.0 ++ 32 ∷ x) v.0)) ∙ sym (read_parts name.0 seen.0 value.0);
      is_note = (m.1, s.1, v.1);
    })

decide_takes : (version shards : ℕ) (text : List ℕ) (n : Note) → decide_in shards text ≡ Some n → Read version shards (codes "decide") text n
unfolding decide_in
decide_takes version shards text n h =
    let words = bind_some (cut 32 text) _ n h in
    let txn = bind_some (txn_in words.0.0) _ n words.2 in
    let decision = bind_some (decision_in shards words.0.1) _ n txn.2 in
    let c = cut_takes 32 text words.0 words.1 in
    let t = txn_takes words.0.0 txn.0 txn.1 in
    let d = decision_takes shards words.0.1 decision.0 decision.1 in
    subst (Read version shards (codes "decide") text) (some_is (notes.Decide txn.0 decision.0) n decision.2) (record {
      spelled = ap (λ (v : List ℕ). codes "decide" ++ 32 ∷ v) (c.whole ∙ ap (λ (v : List ℕ). v ++ 32 ∷ words.0.1) t.0 ∙ ap (λ (v : List ℕ). txn_text txn.0 ++ 32 ∷ v) d.0) ∙ sym (decide_parts txn.0 decision.0);
      is_note = (t.1, d.1);
    })

pub note_takes : (version shards : ℕ) (word text : List ℕ) (n : Note) → note_in version shards word text ≡ Some n → (word ++ 32 ∷ text ≡ note_text n) × IsNote version shards n
unfolding note_in
note_takes version shards word text n h = elim (either (is_word (codes "begin") word) (begin_in version text) _ n h) [
  | inl a ↦ behind_word (codes "begin") a.0 (begin_takes version shards text n a.1)
  | inr b ↦ elim (either (is_word (codes "take") word) (take_in text) _ n b.1) [
    | inl a ↦ behind_word (codes "take") a.0 (take_takes version shards text n a.1)
    | inr d ↦ elim (either (is_word (codes "read") word) (read_in text) _ n d.1) [
      | inl a ↦ behind_word (codes "read") a.0 (read_takes version shards text n a.1)
      | inr e ↦ elim (either (is_word (codes "decide") word) (decide_in shards text) _ n e.1) [
        | inl a ↦ behind_word (codes "decide") a.0 (decide_takes version shards text n a.1)
        | inr f ↦ (let none = f.1 in absurd cc)
      ]
    ]
  ]
] where
  behind_word : (w : List ℕ) → is_word w word ≡ true → Read version shards w text n → (word ++ 32 ∷ text ≡ note_text n) × IsNote version shards n
  behind_word w same r = (ap (λ (v : List ℕ). v ++ 32 ∷ text) (word_is w word same) ∙ r.spelled, r.is_note)

-- ---- what is spelled

-- the first word of a note's text, what follows, that it is read, and that a line of this word is that of a note
pub record Spelled (version shards : ℕ) (n : Note) : Type 0 where
  pub word : List ℕ
  pub text : List ℕ
  pub parts : note_text n ≡ word ++ 32 ∷ text
  pub solid : lacks 32 word ≡ true
  pub again : note_in version shards word text ≡ Some n
  pub only_a_note : (s : Standing) → line_of s word text ≡ cond (allows s.stage forms.Note) (note_of s word text) None

pub note_again : (version shards : ℕ) (n : Note) → shards < 2 ^ 64 → IsNote version shards n → Spelled version shards n
unfolding line_of note_in begin_in take_in read_in decide_in
note_again version shards (notes.Begin txn p) few h = record {
  word = codes "begin";
  text = txn_text txn ++ 32 ∷ payload_text p;
  parts = begin_parts txn p;
  solid = refl;
  again = rw (cut_again 32 (txn_text txn) (payload_text p) (txn_lacks 32 txn (omega arith) h.0), txn_again txn h.0, payload_again version p h.1 h.2) refl;
  only_a_note = λ s. refl;
}
note_again version shards (notes.Take txn) few h = record {
  word = codes "take";
  text = txn_text txn;
  parts = refl;
  solid = refl;
  again = rw (txn_again txn h) refl;
  only_a_note = λ s. refl;
}
note_again version shards (notes.ReadValue name seen value) few h = record {
  word = codes "read";
  text = name ++ 32 ∷ (decimal seen ++ 32 ∷ value_text value);
  parts = read_parts name seen value;
  solid = refl;
  again = rw (
    cut_again 32 name (decimal seen ++ 32 ∷ value_text value) (name_lacks 32 name (omega arith) h.0),
    cut_again 32 (decimal seen) (value_text value) (decimal_lacks 32 seen (omega arith) h.1),
    name_in_again name h.0,
    number_in_again seen h.1,
    value_in_again value h.2,
  ) refl;
  only_a_note = λ s. refl;
}
note_again version shards (notes.Decide txn d) few h = record {
  word = codes "decide";
  text = txn_text txn ++ 32 ∷ decision_text d;
  parts = decide_parts txn d;
  solid = refl;
  again = rw (cut_again 32 (txn_text txn) (decision_text d) (txn_lacks 32 txn (omega arith) h.0), txn_again txn h.0, decision_again shards d few h.1) refl;
  only_a_note = λ s. refl;
}
