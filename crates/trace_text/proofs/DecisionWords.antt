-- Decisions: what is read is spelled so, and what is spelled so is read.
use Rattle.std.proofs.Common.{◌≡◌, inl, inr, ℕ, ◌^◌, ◌<◌, List, ◌∷◌, ◌++◌, Some, refl, sym, ap, subst, ◌∙◌, append_assoc, arith}
use Rattle.std.specs.Prelude.{codes, decimal}
use Rattle.tcs_terms.specs.declared.votes.Cause.{Cause}
use Rattle.tcs_terms.specs.declared.votes.Cause.TheVariants as causes
use Rattle.tcs_terms.specs.declared.votes.Decision.{Decision}
use Rattle.tcs_terms.specs.declared.votes.Decision.TheVariants as decisions
use Rattle.text_words.specs.Texts.{txn_text}
use Rattle.trace_text.specs.Texts.{cause_text, decision_text}
use Rattle.trace_text.specs.Lines.{IsCause, IsDecision}
use Rattle.trace_text.specs.Words.{cut, is_word, number_within, txn_in}
use Rattle.trace_text.specs.Readings.{clash_in, cause_in, abort_in, decision_in}
use Rattle.trace_text.proofs.Steps.{bind_some, some_is, kept, either}
use Rattle.trace_text.proofs.Cuts.{cut_takes, cut_again}
use Rattle.trace_text.proofs.PlainWords.{word_is, decimal_lacks, within_takes, within_again, small_within, txn_takes, txn_again}

-- ---- causes

cause_takes : (text : List ℕ) (cause : Cause) → cause_in text ≡ Some cause → (text ≡ cause_text cause) × IsCause cause
unfolding cause_in clash_in
cause_takes text cause h = elim (either (is_word (codes "lost") text) (Some causes.Lost) _ cause h) [
  | inl a ↦ subst (λ (d : Cause). (text ≡ cause_text d) × IsCause d) (some_is causes.Lost cause a.1) (word_is (codes "lost") text a.0, tt)
  | inr b ↦ (
      let words = bind_some (cut 32 text) _ cause b.1 in
      let txn = bind_some (txn_in words.0.1) _ cause words.2 in
      let c = cut_takes 32 text words.0 words.1 in
      let t = txn_takes words.0.1 txn.0 txn.1 in
      let k = kept (is_word (codes "clash") words.0.0) (causes.Clash txn.0) cause txn.2 in
      subst (λ (d : Cause). (text ≡ cause_text d) × IsCause d) k.1
      (c.whole ∙ ap (λ (w : List ℕ). w ++ 32 ∷ words.0.1) (word_is (codes "clash") words.0.0 k.0) ∙ ap (λ (v : List ℕ). codes "clash" ++ 32 ∷ v) t.0, t.1))
]

cause_again : (cause : Cause) → IsCause cause → cause_in (cause_text cause) ≡ Some cause
unfolding cause_in clash_in
cause_again (causes.Clash txn) h = rw (cut_again 32 (codes "clash") (txn_text txn) refl, txn_again txn h) refl
cause_again causes.Lost h = refl

-- ---- decisions

abort_parts : (shard : ℕ) (cause : Cause) → decision_text (decisions.Abort shard cause) ≡ codes "abort" ++ 32 ∷ (decimal shard ++ 32 ∷ cause_text cause)
abort_parts shard cause = simp append_assoc

abort_takes : (shards : ℕ) (text : List ℕ) (d : Decision) → abort_in shards text ≡ Some d → (text ≡ decision_text d) × IsDecision shards d
unfolding abort_in
abort_takes shards text d h =
    let words = bind_some (cut 32 text) _ d h in
    let others = bind_some (cut 32 words.0.1) _ d words.2 in
    let shard = bind_some (number_within 1 shards others.0.0) _ d others.2 in
    let cause = bind_some (cause_in others.0.1) _ d shard.2 in
    let c = cut_takes 32 text words.0 words.1 in
    let o = cut_takes 32 words.0.1 others.0 others.1 in
    let n = within_takes 1 shards others.0.0 shard.0 shard.1 in
    let w = cause_takes others.0.1 cause.0 cause.1 in
    let k = kept (is_word (codes "abort") words.0.0) (decisions.Abort shard.0 cause.0) d cause.2 in
    subst (λ (e : Decision). (text ≡ decision_text e) × IsDecision shards e) k.1 (
      c.whole ∙ ap (λ (v : List ℕ). v ++ 32 ∷ words.0.1) (word_is (codes "abort") words.0.0 k.0) ∙ ap (λ (v : List ℕ). codes "abort" ++ 32 ∷ v)
          (o.whole ∙ ap (λ (v : List ℕ). v ++ 32 ∷ others.0.1) n.spelled ∙ ap (λ (v : List ℕ). decimal shard.0 ++ 32 ∷ v) w.0)
          ∙ sym (abort_parts shard.0 cause.0),
      (n.fits, w.1),
    )

pub decision_takes : (shards : ℕ) (text : List ℕ) (d : Decision) → decision_in shards text ≡ Some d → (text ≡ decision_text d) × IsDecision shards d
unfolding decision_in
decision_takes shards text d h = elim (either (is_word (codes "commit") text) (Some decisions.Commit) _ d h) [
  | inl a ↦ subst (λ (e : Decision). (text ≡ decision_text e) × IsDecision shards e) (some_is decisions.Commit d a.1) (word_is (codes "commit") text a.0, tt)
  | inr b ↦ abort_takes shards text d b.1
]

pub decision_again : (shards : ℕ) (d : Decision) → shards < 2 ^ 64 → IsDecision shards d → decision_in shards (decision_text d) ≡ Some d
unfolding decision_in abort_in
decision_again shards decisions.Commit few h = refl
decision_again shards (decisions.Abort shard cause) few h =
    let small = small_within 1 shards shard h.0 few in
    rw (
      abort_parts shard cause,
      cut_again 32 (codes "abort") (decimal shard ++ 32 ∷ cause_text cause) refl,
      cut_again 32 (decimal shard) (cause_text cause) (decimal_lacks 32 shard (omega arith) small),
      within_again 1 shards shard h.0 small,
      cause_again cause h.1,
    ) refl
