-- What is kept of each object once one of them has another write.
use Rattle.std.proofs.Common.{◌≡◌, ℕ, ◌<◌, Bool, true, false, cond, List, sym, ap, ◌∙◌, subst, inl, inr}
use Rattle.std.specs.Prelude.{nat_lt, Option, Some, None}
use Rattle.std.specs.BTreeMap.{BTreeMap, UpdatesBy}
use Rattle.std.specs.Map.{lookup, IsKeyTest, AreApart, KeepsOthers}
use Rattle.std.specs.Ordering.{is_eq, nat_cmp}
use Rattle.std.specs.Cmp.{eq_by_cmp_equiv}
use Rattle.std.specs.Cmp.Lexicographic.{slice_cmp, nat_list_cmp_total, nat_list_eq_equiv, bytes_decides}
use Rattle.std.proofs.lemmas.Map.Text.{is_eq-slice_cmp}
use Rattle.std.proofs.lemmas.Bool.{cases_Bool, cond-true, cond-false, lt-ltb}
use Rattle.tcs_terms.specs.Payloads.{same_name}
use Rattle.version_store.specs.declared.kept.Kept.{Kept}
use Rattle.tcs_terms.specs.declared.payloads.WritePart.{WritePart}
use Rattle.version_store.specs.Keeping.{kept_at, better, found_write, after_write}

others_stay : {K X : Type 0} (eq : K → K → Bool) (test : K → Bool) (old new : List (K × X)) → KeepsOthers eq test old new
    → (other : K → Bool) → IsKeyTest eq other → AreApart test other → lookup other new ≡ lookup other old
unfolding KeepsOthers
others_stay eq test old new h = h

apart : (bs cs ks : List ℕ) → same_name bs cs ≡ false → is_eq (slice_cmp nat_cmp bs ks) ≡ true
    → is_eq (slice_cmp nat_cmp cs ks) ≡ false
apart bs cs ks differ same =
    is_eq-slice_cmp cs ks ∙ nat_list_eq_equiv.symm cs ks
    ∙ sym (nat_list_eq_equiv.congr bs ks cs (sym (is_eq-slice_cmp bs ks) ∙ same)) ∙ differ

-- a map that has a write at one name has what it had at the others
pub kept_after : (bs : List ℕ) (m n : BTreeMap (List ℕ) Kept) (w : Option Kept)
    → UpdatesBy (slice_cmp nat_cmp) (slice_cmp nat_cmp bs) m n w
    → (cs : List ℕ) → kept_at n cs ≡ cond (same_name bs cs) w (kept_at m cs)
kept_after bs m n w h cs = elim (cases_Bool (same_name bs cs)) [
  | inl same ↦ subst (λ l. kept_at n l ≡ w) ((bytes_decides bs cs).0 same) h.1 ∙ sym (cond-true (same_name bs cs) w (kept_at m cs) same)
  | inr differ ↦ others_stay _ _ _ _ h.3 _ (λ x y. (eq_by_cmp_equiv nat_list_cmp_total).congr cs x y)
      (λ k. apart bs cs k differ) ∙ sym (cond-false (same_name bs cs) w (kept_at m cs) differ)
]

-- what is kept of each object, once a write of one is taken in
pub after_better : (m n : BTreeMap (List ℕ) Kept) (slot version : ℕ) (w : WritePart) (old new : Option Kept)
    → kept_at m w.name ≡ old → new ≡ better old (found_write slot version (Some w))
    → UpdatesBy (slice_cmp nat_cmp) (slice_cmp nat_cmp w.name) m n new
    → (cs : List ℕ) → kept_at n cs ≡ after_write cs slot version (kept_at m cs) w
after_better m n slot version w old new was is h cs =
    kept_after w.name m n new h cs ∙ elim (cases_Bool (same_name w.name cs)) [
      | inl same ↦ cond-true (same_name w.name cs) new (kept_at m cs) same ∙ is
          ∙ ap (λ k. better k (found_write slot version (Some w))) (sym was ∙ ap (kept_at m) ((bytes_decides w.name cs).0 same))
          ∙ sym (cond-true (same_name w.name cs) _ (kept_at m cs) same)
      | inr differ ↦ cond-false (same_name w.name cs) new (kept_at m cs) differ
          ∙ sym (cond-false (same_name w.name cs) _ (kept_at m cs) differ)
    ]

-- the first write that is kept of an object is better than none
pub first_kept : (slot version : ℕ) (w : WritePart) → 0 < version → found_write slot version (Some w) ≡ better None (found_write slot version (Some w))
first_kept slot version w some = sym (cond-true (nat_lt 0 version) _ _ (lt-ltb 0 version some))
