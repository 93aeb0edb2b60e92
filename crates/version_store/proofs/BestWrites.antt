-- The best write of each object, over the writes of a payload and over the rows of a log.
use Rattle.std.proofs.Common.{◌≡◌, ℕ, false, List, [], ◌∷◌, ◌+◌, ◌<◌, length, take, get_or, refl, sym, ap, ◌∙◌, inl, inr, arith}
use Rattle.std.specs.Prelude.{Option, Some, None, find, fold}
use Rattle.std.proofs.lemmas.Bool.{cases_Bool}
use Rattle.std.proofs.lemmas.List.{take_more}
use Rattle.std.proofs.lemmas.List.Sums.{fold-append}
use Rattle.std.proofs.lemmas.Bool.Decides.{nat_tests}
use Rattle.tcs_terms.specs.declared.logs.Row.{Row}
use Rattle.tcs_terms.specs.declared.payloads.WritePart.{WritePart}
use Rattle.tcs_terms.specs.Payloads.{same_name}
use Rattle.version_store.specs.declared.kept.Kept.{Kept}
use Rattle.version_store.specs.Keeping.{goes_before, better, found_write, after_write, best_of, write_of}

not_twice : (version slot : ℕ) (value : List ℕ) → goes_before version slot (Some (record { version = version; slot = slot; value = value })) ≡ false
not_twice version slot value = grind (arith, nat_tests)

-- of the writes of one payload the first stays
first_stays : (k : Option Kept) (slot version : ℕ) (value : List ℕ) (later : Option WritePart)
    → better (better k (Some (record { version = version; slot = slot; value = value }))) (found_write slot version later)
    ≡ better k (Some (record { version = version; slot = slot; value = value }))
first_stays k slot version value None = refl
first_stays k slot version value (Some w) = elim (cases_Bool (goes_before version slot k)) [
  | inl taken ↦ rw (taken, not_twice version slot value) refl
  | inr past ↦ rw (past, past) refl
]

-- the writes of a payload, taken in one by one, come to the first of the object
pub first_found : (name : List ℕ) (slot version : ℕ) (k : Option Kept) (ws : List WritePart)
    → fold (after_write name slot version) k ws ≡ better k (found_write slot version (find (λ w. same_name w.name name) ws))
first_found name slot version k [] = refl
first_found name slot version k (w ∷ ws) = elim (cases_Bool (same_name w.name name)) [
  | inl same ↦ rw same
      (first_found name slot version (better k (Some (record { version = version; slot = slot; value = w.value }))) ws
      ∙ first_stays k slot version w.value (find (λ w. same_name w.name name) ws))
  | inr other ↦ rw other (first_found name slot version k ws)
]

pub best_of_none : (name : List ℕ) → best_of [] name ≡ None
unfolding best_of
best_of_none name = refl

-- one more row adds its writes
pub best_of_more : (rows : List Row) (i : ℕ) (r : Row) → i < length rows → r ≡ get_or rows i r → (name : List ℕ)
    → best_of (take (i + 1) rows) name ≡ better (best_of (take i rows) name) (write_of r name)
unfolding best_of
best_of_more rows i r within is name =
    rw (take_more rows i r within) (fold-append (λ best r. better best (write_of r name)) None (take i rows) (get_or rows i r ∷ [])
    ∙ ap (λ x. better (best_of (take i rows) name) (write_of x name)) (sym is))
