-- What a loop over the numbers from 1 on, or over a list, has made so far, and what its next step makes of it.
use Rattle.std.proofs.Common.{◌≡◌, ℕ, ◌+◌, ◌-◌, ◌≤◌, Bool, true, false, ◌||◌, List, [], ◌∷◌, ◌++◌, refl, sym, ◌∙◌, ap}
use Rattle.std.specs.Prelude.{fold}
use Rattle.std.specs.List.{list_any, range_with_len}
use Rattle.std.proofs.lemmas.List.Folds.{list_any-append}
use Rattle.std.proofs.lemmas.List.Sums.{fold-append}
use Rattle.tcs_terms.proofs.OrderLaws.{range_grows}

-- the numbers up to the last
grown : (last : ℕ) → 1 ≤ last → range_with_len 1 (last - 1) ++ last ∷ [] ≡ range_with_len 1 (last + 1 - 1)
grown last some = range_grows last (range_with_len 1 (last - 1)) (range_with_len 1 (last - 1) ++ last ∷ []) some refl refl

pub fold_grows : {B : Type 0} (f : B → ℕ → B) (a : B) (last : ℕ) (old new : B) → 1 ≤ last → old ≡ fold f a (range_with_len 1 (last - 1)) → new ≡ f old last → new ≡ fold f a (range_with_len 1 (last + 1 - 1))
fold_grows f a last old new some h q =
    q ∙ ap (λ b. f b last) h ∙ sym (fold-append f a (range_with_len 1 (last - 1)) (last ∷ [])) ∙ ap (fold f a) (grown last some)

alone : (b : Bool) → (b || false) ≡ b
alone true = refl
alone false = refl

any_grown : (p : ℕ → Bool) (last : ℕ) → 1 ≤ last → list_any p (range_with_len 1 (last + 1 - 1)) ≡ (list_any p (range_with_len 1 (last - 1)) || p last)
any_grown p last some =
    ap (list_any p) (sym (grown last some)) ∙ list_any-append p (range_with_len 1 (last - 1)) (last ∷ []) ∙ ap (λ b. list_any p (range_with_len 1 (last - 1)) || b) (alone (p last))

either_true : (b : Bool) → (b || true) ≡ true
either_true true = refl
either_true false = refl

pub any_takes : (p : ℕ → Bool) (last : ℕ) (new : Bool) → 1 ≤ last → p last ≡ true → new ≡ true → new ≡ list_any p (range_with_len 1 (last + 1 - 1))
any_takes p last new some e q =
    q ∙ sym (any_grown p last some ∙ ap (λ b. list_any p (range_with_len 1 (last - 1)) || b) e ∙ either_true (list_any p (range_with_len 1 (last - 1))))

pub any_leaves : (p : ℕ → Bool) (last : ℕ) (old new : Bool) → 1 ≤ last → p last ≡ false → old ≡ list_any p (range_with_len 1 (last - 1)) → new ≡ old → new ≡ list_any p (range_with_len 1 (last + 1 - 1))
any_leaves p last old new some e h q =
    q ∙ h ∙ sym (any_grown p last some ∙ ap (λ b. list_any p (range_with_len 1 (last - 1)) || b) e ∙ alone (list_any p (range_with_len 1 (last - 1))))
