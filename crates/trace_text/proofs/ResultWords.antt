-- Results and decisions: what is read is spelled so, and what is spelled so is read.
use Rattle.std.proofs.Common.{◌≡◌, inl, inr, ℕ, ◌^◌, ◌<◌, true, ◌&&◌, List, ◌∷◌, ◌++◌, Option, Some, refl, ap, subst, ◌∙◌, arith}
use Rattle.std.specs.Prelude.{nat_le, codes, decimal}
use Rattle.std.proofs.lemmas.Bool.Decides.{nat_tests}
use Rattle.tcs_terms.specs.declared.inputs.Handled.TheVariants as handled
use Rattle.tcs_terms.specs.declared.inputs.Result1.{Result1}
use Rattle.tcs_terms.specs.declared.inputs.Result1.TheVariants as results
use Rattle.tcs_terms.proofs.BoolLaws.{both, right_of}
use Rattle.trace_text.specs.Texts.{result_text}
use Rattle.trace_text.specs.Lines.{IsResult}
use Rattle.trace_text.specs.Words.{cut, is_word, number_within}
use Rattle.trace_text.specs.Readings.{MAX_MARK, marked_in, result_in}
use Rattle.trace_text.proofs.Steps.{bind_some, some_is, kept, either}
use Rattle.trace_text.proofs.Cuts.{cut_takes, cut_again}
use Rattle.trace_text.proofs.PlainWords.{word_is, within_takes, within_again}

record Read (text : List ℕ) (r : Result1) : Type 0 where
  spelled : text ≡ result_text r
  is_result : IsResult r

marked_takes : (text : List ℕ) (r : Result1) → marked_in text ≡ Some r → Read text r
unfolding marked_in
marked_takes text r h =
    let words = bind_some (cut 32 text) _ r h in
    let mark = bind_some (number_within 0 MAX_MARK words.0.1) _ r words.2 in
    let c = cut_takes 32 text words.0 words.1 in
    let x = within_takes 0 MAX_MARK words.0.1 mark.0 mark.1 in
    let top = right_of (nat_le 0 mark.0) (nat_le mark.0 MAX_MARK) x.fits in
    let small : mark.0 < 2 ^ 32 = grind (arith, nat_tests) in
    let whole = c.whole ∙ ap (λ (v : List ℕ). words.0.0 ++ 32 ∷ v) x.spelled in
    elim (either (is_word (codes "stale") words.0.0) (Some (results.Node (handled.Stale mark.0))) _ r mark.2) [
      | inl a ↦ subst (Read text) (some_is (results.Node (handled.Stale mark.0)) r a.1) (record {
        spelled = whole ∙ ap (λ (w : List ℕ). w ++ 32 ∷ decimal mark.0) (word_is (codes "stale") words.0.0 a.0);
        is_result = small;
      })
      | inr b ↦ (let k = kept (is_word (codes "held") words.0.0) (results.Node (handled.Held mark.0)) r b.1 in subst (Read text) k.1 (record {
        spelled = whole ∙ ap (λ (w : List ℕ). w ++ 32 ∷ decimal mark.0) (word_is (codes "held") words.0.0 k.0);
        is_result = small;
      }))
    ]

pub result_takes : (text : List ℕ) (r : Result1) → result_in text ≡ Some r → (text ≡ result_text r) × IsResult r
unfolding result_in
result_takes text r h = elim (either (is_word (codes "acted") text) (Some (results.Node handled.Acted)) _ r h) [
  | inl a ↦ plain (results.Node handled.Acted) (word_is (codes "acted") text a.0) tt a.1
  | inr b ↦ elim (either (is_word (codes "full") text) (Some (results.Node handled.Full)) _ r b.1) [
    | inl a ↦ plain (results.Node handled.Full) (word_is (codes "full") text a.0) tt a.1
    | inr d ↦ elim (either (is_word (codes "gone") text) (Some results.Gone) _ r d.1) [
      | inl a ↦ plain results.Gone (word_is (codes "gone") text a.0) tt a.1
      | inr e ↦ elim (either (is_word (codes "unsent") text) (Some results.Unsent) _ r e.1) [
        | inl a ↦ plain results.Unsent (word_is (codes "unsent") text a.0) tt a.1
        | inr f ↦ (let m = marked_takes text r f.1 in (m.spelled, m.is_result))
      ]
    ]
  ]
] where
  plain : (q : Result1) → text ≡ result_text q → IsResult q → ◌≡◌ {A = Option Result1} (Some q) (Some r) → (text ≡ result_text r) × IsResult r
  plain q spelled is same = subst (λ (p : Result1). (text ≡ result_text p) × IsResult p) (some_is q r same) (spelled, is)

mark_fits : (n : ℕ) → n < 2 ^ 32 → (nat_le 0 n && nat_le n MAX_MARK) ≡ true
mark_fits n h = both (nat_le 0 n) (nat_le n MAX_MARK) (grind (arith, nat_tests)) (grind (arith, nat_tests))

pub result_again : (r : Result1) → IsResult r → result_in (result_text r) ≡ Some r
unfolding result_in marked_in
result_again (results.Node handled.Acted) h = refl
result_again (results.Node (handled.Stale mark)) h =
    rw (cut_again 32 (codes "stale") (decimal mark) refl, within_again 0 MAX_MARK mark (mark_fits mark h) (omega arith)) refl
result_again (results.Node (handled.Held mark)) h =
    rw (cut_again 32 (codes "held") (decimal mark) refl, within_again 0 MAX_MARK mark (mark_fits mark h) (omega arith)) refl
result_again (results.Node handled.Full) h = refl
result_again results.Gone h = refl
result_again results.Unsent h = refl
