-- A value that is put takes the place of the one before.
use Rattle.std.proofs.Common.{◌≡◌, ℕ, zero, suc, ◌<◌, Bool, true, false, cond, List, [], ◌∷◌, length, map, get_or, refl, ap, arith}
use Rattle.std.proofs.Math.ListN.{set}
use Rattle.std.specs.Prelude.{Some}
use Rattle.std.specs.List.{position}
use Rattle.std.proofs.lemmas.List.Quantifiers.{position-Some}
use Rattle.tcs_terms.specs.Payloads.{same_name}
use Rattle.store_client.specs.declared.parts.Part.{Part}
use Rattle.store_client.specs.Parts.{with_put, AreParts}

set_first : (name value : List ℕ) (parts : List Part) (i : ℕ) (d new : Part) → new ≡ record (get_or parts i d) { put = Some value } → i < length parts
    → same_name (get_or parts i d).name name ≡ true → ((k : ℕ) → k < i → same_name (get_or parts k d).name name ≡ false) → set parts i new ≡ with_put name value parts
set_first name value [] i d new is within here before = absurd (omega arith)
set_first name value (p ∷ ps) zero d new is within here before = rw here (ap (λ (q : Part). q ∷ ps) is)
set_first name value (p ∷ ps) (suc i) d new is within here before =
    rw (before 0 (omega arith)) (ap (λ (qs : List Part). p ∷ qs) (set_first name value ps i d new is (omega arith) here (λ k below. before (suc k) (omega arith))))

pub set_is_with_put : (name value : List ℕ) (parts : List Part) (i : ℕ) (d new : Part) → new ≡ record (get_or parts i d) { put = Some value }
    → position (λ (p : Part). same_name p.name name) parts ≡ Some i → set parts i new ≡ with_put name value parts
set_is_with_put name value parts i d new is found =
    let h = position-Some (λ (p : Part). same_name p.name name) parts i d found in
    set_first name value parts i d new is h.0 h.1 h.2

names-with_put : (name value : List ℕ) (parts : List Part) → map (λ (p : Part). p.name) (with_put name value parts) ≡ map (λ (p : Part). p.name) parts
names-with_put name value [] = refl
names-with_put name value (p ∷ ps) = go (same_name p.name name) refl (names-with_put name value ps)
  where
    go : (b : Bool) → same_name p.name name ≡ b → map (λ (p : Part). p.name) (with_put name value ps) ≡ map (λ (p : Part). p.name) ps
        → map (λ (p : Part). p.name) (cond (same_name p.name name) (record p { put = Some value } ∷ ps) (p ∷ with_put name value ps)) ≡ map (λ (p : Part). p.name) (p ∷ ps)
    go true is rest = rw is refl
    go false is rest = rw is (ap (λ (ns : List (List ℕ)). p.name ∷ ns) rest)

length-with_put : (name value : List ℕ) (parts : List Part) → length (with_put name value parts) ≡ length parts
length-with_put name value [] = refl
length-with_put name value (p ∷ ps) = go (same_name p.name name) refl (length-with_put name value ps)
  where
    go : (b : Bool) → same_name p.name name ≡ b → length (with_put name value ps) ≡ length ps → length (cond (same_name p.name name) (record p { put = Some value } ∷ ps) (p ∷ with_put name value ps)) ≡ length (p ∷ ps)
    go true is rest = rw is refl
    go false is rest = rw is (omega (arith, rest))

-- names and their number stay
pub with_put_are : (name value : List ℕ) (parts after : List Part) → after ≡ with_put name value parts → AreParts parts → AreParts after
with_put_are name value parts after is are = rw is (record {
  ascend = rw (names-with_put name value parts) are.ascend;
  few = rw (length-with_put name value parts) are.few;
})
