-- The row that a decision is for, and what a store stands for once the row has its mark.
use Rattle.std.proofs.Common.{◌≡◌, ℕ, suc, Bool, true, false, List, [], ◌∷◌, get_or, Some, None, refl, sym, ap, ◌∙◌, subst, inl, inr, arith}
use Rattle.std.specs.Prelude.{◌==◌, Contains, find}
use Rattle.std.proofs.lemmas.Bool.{cond-true, cond-false, cases_Bool, eqb-true}
use Rattle.std.proofs.lemmas.List.{get_or-map}
use Rattle.tcs_terms.specs.declared.logs.Row.{Row}
use Rattle.tcs_terms.specs.declared.logs.Mark.{Mark}
use Rattle.tcs_terms.specs.declared.logs.Mark.TheVariants.{Undecided, Committed}
use Rattle.protocol.specs.Log.{row_at, set_mark, marked, mark_of}
use Rattle.version_store.specs.declared.store.VersionStore.{VersionStore}
use Rattle.version_store.specs.Keeping.{StandsFor, SlotsAscend}
use Rattle.version_store.proofs.Undecided.{stands_aborted}
use Rattle.cert_log.specs.Places.{slots_of}
use Rattle.cert_log.proofs.Marking.{marked_before}

-- what a search finds passes the test
passes_found : {X : Type 0} (p : X → Bool) (xs : List X) (x : X) → find p xs ≡ Some x → p x ≡ true
passes_found p [] x found = absurd cc
passes_found {X} p (y ∷ ys) x found = elim (cases_Bool (p y)) [
  | inl here ↦
      let some = cond-true (p y) (Some y) (find p ys) here in
      let same : y ≡ x = cc in subst (λ z. p z ≡ true) same here
  | inr past ↦ passes_found p ys x (sym (cond-false (p y) (Some y) (find p ys) past) ∙ found)
]

-- and is one of the elements
pub contains_found : {X : Type 0} (p : X → Bool) (xs : List X) (x : X) → find p xs ≡ Some x → Contains xs x
contains_found p [] x found = absurd cc
contains_found {X} p (y ∷ ys) x found = elim (cases_Bool (p y)) [
  | inl here ↦
      let some = cond-true (p y) (Some y) (find p ys) here in
      let same : y ≡ x = cc in
      (0, omega arith, same)
  | inr past ↦
      let later = contains_found p ys x (sym (cond-false (p y) (Some y) (find p ys) past) ∙ found) in
      (suc later.0, let within = later.1 in omega arith, later.2)
]

-- the row of a slot has that slot
pub slot_found : (rows : List Row) (slot : ℕ) (row : Row) → row_at rows slot ≡ Some row → row.entry.slot ≡ slot
slot_found rows slot row found = eqb-true row.entry.slot slot (passes_found (λ (r : Row). r.entry.slot == slot) rows row found)

-- ---- marks that change nothing that is read

-- a slot without a row
pub marked_nowhere : (mark : Mark) (slot : ℕ) (rows : List Row) → row_at rows slot ≡ None → marked rows slot mark ≡ rows
marked_nowhere mark slot [] none = refl
marked_nowhere mark slot (r ∷ rows) none = elim (cases_Bool (r.entry.slot == slot)) [
  | inl here ↦ let some = cond-true (r.entry.slot == slot) (Some r) (row_at rows slot) here in absurd cc
  | inr past ↦
      ap (λ (x : Row). x ∷ marked rows slot mark) (cond-false (r.entry.slot == slot) (set_mark mark r) r past)
      ∙ ap (λ xs. r ∷ xs) (marked_nowhere mark slot rows (sym (cond-false (r.entry.slot == slot) (Some r) (row_at rows slot) past) ∙ none))
]

-- a decided row keeps its mark
stands_decided : (store : VersionStore) (rows : List Row) → StandsFor store rows → SlotsAscend rows → (row : Row) → Contains rows row → (row.mark ≡ Undecided → ⊥) → (mark : Mark)
    → StandsFor store (marked rows row.entry.slot mark)
stands_decided store rows stands rise row there decided mark =
    let at : get_or (slots_of rows) there.0 0 ≡ row.entry.slot = get_or-map (λ (x : Row). x.entry.slot) rows there.0 row 0 there.1 ∙ ap (λ (x : Row). x.entry.slot) there.2 in
    subst (λ rs. StandsFor store rs) (marked_before mark rows there.0 row rise there.1 (sym there.2) decided ∙ ap (λ s. marked rows s mark) at) stands

-- a store need not be told of a decision to abort, or on a row that has its mark
pub stands_untold : (store : VersionStore) (rows : List Row) → StandsFor store rows → SlotsAscend rows → (row : Row) → Contains rows row
    → (commit : Bool) → (commit ≡ true → row.mark ≡ Undecided → ⊥) → StandsFor store (marked rows row.entry.slot (mark_of commit))
stands_untold store rows stands rise row there true decided = stands_decided store rows stands rise row there (decided refl) Committed
stands_untold store rows stands rise row there false decided = stands_aborted store rows stands row.entry.slot
