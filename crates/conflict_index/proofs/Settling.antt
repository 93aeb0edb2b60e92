-- A search for the lowest slot that clashes, step by step.
use Rattle.std.proofs.Common.{◌≡◌, ℕ, Bool, true, false, ◌&&◌, ◌||◌, cond, List, [], ◌∷◌, sym, subst, inl, inr, arith}
use Rattle.std.specs.Prelude.{◌==◌, nat_lt, Option, Some, None, fold, ◌⊎◌}
use Rattle.std.specs.List.{list_any}
use Rattle.std.proofs.lemmas.Bool.{cond_both, and_parts, and_from, or_cases, eqb-true, ltb-true, ltb-false, le-ltb, false_from_ne_true, both_ways}
use Rattle.conflict_index.specs.Candidates.{is_lower}

-- A step of the search that looks at some slots: what it answers was the answer before or clashes, it answers nothing
-- higher than before, and no slot that it looked at and that clashes is lower than its answer.
pub record Settles (clash : ℕ → Bool) (step : Option ℕ → Option ℕ) (looked : ℕ → Bool) : Type 0 where
  pub sound : (best : Option ℕ) (slot : ℕ) → step best ≡ Some slot → (clash slot ≡ true) ⊎ (best ≡ Some slot)
  pub falls : (best : Option ℕ) (slot : ℕ) → is_lower slot best ≡ false → is_lower slot (step best) ≡ false
  pub settled : (best : Option ℕ) (slot : ℕ) → looked slot ≡ true → clash slot ≡ true → is_lower slot (step best) ≡ false

-- one slot
abbrev one_lower : (ℕ → Bool) → ℕ → Option ℕ → Option ℕ
one_lower clash slot best = cond (is_lower slot best && clash slot) (Some slot) best

lower_is_below : (slot other : ℕ) (best : Option ℕ) → is_lower slot best ≡ true → is_lower other best ≡ false
    → nat_lt other slot ≡ false
lower_is_below slot other None below above = absurd (let no : true ≡ false = above in cc)
lower_is_below slot other (Some best) below above =
    le-ltb other slot (let p = ltb-true slot best below in let q = ltb-false other best above in omega arith)

pub settles_one : (clash : ℕ → Bool) (slot : ℕ) → Settles clash (one_lower clash slot) (λ s. slot == s)
settles_one clash slot = record {
  sound = λ best s. cond_both (is_lower slot best && clash slot) (Some slot) best (λ o. o ≡ Some s → (clash s ≡ true) ⊎ (best ≡ Some s))
      (λ both e. inl (let here = (and_parts (is_lower slot best) (clash slot) both).1 in let same : slot ≡ s = cc in subst (λ x. clash x ≡ true) same here))
      (λ _ e. inr e);
  falls = λ best s above. cond_both (is_lower slot best && clash slot) (Some slot) best (λ o. is_lower s o ≡ false)
      (λ both. lower_is_below slot s best (and_parts (is_lower slot best) (clash slot) both).0 above)
      (λ _. above);
  settled = λ best s here clashing. let same : slot ≡ s = eqb-true slot s here in
      subst (λ x. is_lower x (one_lower clash slot best) ≡ false) same
      (cond_both (is_lower slot best && clash slot) (Some slot) best (λ o. is_lower slot o ≡ false)
      (λ _. le-ltb slot slot (omega arith))
      (λ neither. false_from_ne_true _ (λ below. let clashes_here : clash slot ≡ true = subst (λ x. clash x ≡ true) (sym same) clashing in
      both_ways _ neither (and_from _ _ below clashes_here))));
}

-- nothing looked at
pub settles_none : (clash : ℕ → Bool) → Settles clash (λ best. best) (λ s. false)
settles_none clash = record {
  sound = λ best s e. inr e;
  falls = λ best s above. above;
  settled = λ best s no. absurd (let never : false ≡ true = no in cc);
}

-- one step after another
pub settles_then : {clash : ℕ → Bool} {f g : Option ℕ → Option ℕ} {looked also : ℕ → Bool}
    → Settles clash f looked → Settles clash g also → Settles clash (λ best. g (f best)) (λ s. looked s || also s)
settles_then {clash} {f} {g} {looked} {also} first second = record {
  sound = λ best s e. elim (second.sound (f best) s e) [ inl here ↦ inl here | inr before ↦ first.sound best s before ];
  falls = λ best s above. second.falls (f best) s (first.falls best s above);
  settled = λ best s either clashing. elim (or_cases (looked s) (also s) either) [
    | inl by_first ↦ second.falls (f best) s (first.settled best s by_first clashing)
    | inr by_second ↦ second.settled (f best) s by_second clashing
  ];
}

-- a step for each element of a list
pub settles_each : {X : Type 0} (clash : ℕ → Bool) (step : X → Option ℕ → Option ℕ) (looked : X → ℕ → Bool)
    → ((x : X) → Settles clash (step x) (looked x)) → (xs : List X)
    → Settles clash (λ best. fold (λ b x. step x b) best xs) (λ s. list_any (λ x. looked x s) xs)
settles_each clash step looked h [] = settles_none clash
settles_each clash step looked h (x ∷ xs) = settles_then (h x) (settles_each clash step looked h xs)

-- a step that is taken or left out
pub settles_if : {step : Option ℕ → Option ℕ} {looked : ℕ → Bool} (clash : ℕ → Bool) (b : Bool) → Settles clash step looked
    → Settles clash (λ best. cond b (step best) best) (λ s. b && looked s)
settles_if clash true settles = settles
settles_if clash false settles = settles_none clash
