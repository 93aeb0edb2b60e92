-- A word that names a rule is the rule's, and the rule's word names it.
use Rattle.std.proofs.Common.{◌≡◌, ℕ, Bool, true, false, cond, List, Option, Some, None, refl, ap, ◌∙◌, ◌⊎◌, inl, inr}
use Rattle.std.specs.Prelude.{codes}
use Rattle.std.specs.Cmp.Lexicographic.{bytes_decides}
use Rattle.tcs_terms.specs.declared.setups.Rule.{Rule}
use Rattle.tcs_terms.specs.declared.setups.Rule.TheVariants as rules
use Rattle.tcs_terms.specs.Payloads.{same_name}
use Rattle.tcs_terms.specs.Rules.{rule_text, rule_in}

-- a word that names one of several things is that one's word, or names another one
pub named : {A : Type 0} (b : Bool) (w word : List ℕ) (x y : A) (more : Option A) → same_name w word ≡ b → cond b (Some x) more ≡ Some y → ((w ≡ word) × (x ≡ y)) ⊎ (more ≡ Some y)
named true w word x y more e h = inl ((bytes_decides w word).0 e, cc)
named false w word x y more e h = inr h

rule_is : (w : List ℕ) (r s : Rule) → (w ≡ rule_text r) × (r ≡ s) → w ≡ rule_text s
rule_is w r s (e, same) = e ∙ ap rule_text same

pub rule_named : (w : List ℕ) (r : Rule) → rule_in w ≡ Some r → w ≡ rule_text r
unfolding rule_in
rule_named w r h = elim (named _ w (codes "serial") rules.Serial r _ refl h) [
  | inl p ↦ rule_is w rules.Serial r p
  | inr h ↦ elim (named _ w (codes "snapshot") rules.Snapshot r _ refl h) [
    | inl p ↦ rule_is w rules.Snapshot r p
    | inr h ↦ elim (named _ w (codes "commute") rules.Commute r None refl h) [
      | inl p ↦ rule_is w rules.Commute r p
      | inr h ↦ absurd cc
    ]
  ]
]

pub word_names : (r : Rule) → rule_in (rule_text r) ≡ Some r
unfolding rule_in
word_names rules.Serial = refl
word_names rules.Snapshot = refl
word_names rules.Commute = refl
