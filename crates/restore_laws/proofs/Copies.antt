-- One copy of the data after the payloads that put objects back.
use Rattle.std.proofs.Common.{◌≡◌, ℕ, Bool, true, false, cond, List, [], ◌∷◌, map, find, fold, Option, Some, None, ap, subst, refl, ◌∙◌}
use Rattle.tcs_terms.specs.Payloads.{Accesses, same_name}
use Rattle.protocol.specs.OneCopy.{Copied, overwritten, copy_after}
use Rattle.protocol.specs.Worked.Words.{writes}
use Rattle.protocol_laws.proofs.NamesOnce.{same_name-eq}
use Rattle.backup_machine.specs.declared.objects.Kept.{Kept}
use Rattle.restore_laws.specs.Restored.{kept_copy}
use Rattle.restore_laws.specs.Schedules.{payload_of}
use Rattle.restore_laws.proofs.Finding.{none-found}
use Rattle.restore_laws.proofs.Names.{Ascend, rest_ascends, first_differs, differ_turned}

-- an object of the copy after one more payload
abbrev written_by : List ℕ → Copied → Accesses → Copied
written_by name old p = overwritten old p.version (find (λ w. same_name w.name name) p.writes)

-- an object as it was kept, or else as it was
abbrev kept_or : Copied → Option Kept → Copied
kept_or old None = old
kept_or old (Some k) = record { version = k.version; value = k.value }

copied_from : (name : List ℕ) (old : Copied) (ks : List Kept) → Ascend ks → fold (written_by name) old (map payload_of ks) ≡ kept_or old (find (λ (k : Kept). same_name k.name name) ks)
copied_from name old [] h = refl
copied_from name old (k ∷ ks) h = go (same_name k.name name) refl (copied_from name old ks (rest_ascends k ks h)) (copied_from name (record { version = k.version; value = k.value }) ks (rest_ascends k ks h))
  where
    go : (b : Bool) → same_name k.name name ≡ b → fold (written_by name) old (map payload_of ks) ≡ kept_or old (find (λ (y : Kept). same_name y.name name) ks)
        → fold (written_by name) (record { version = k.version; value = k.value }) (map payload_of ks) ≡ kept_or (record { version = k.version; value = k.value }) (find (λ (y : Kept). same_name y.name name) ks)
        → fold (written_by name) (overwritten old k.version (cond b (Some (writes k.name k.value)) None)) (map payload_of ks) ≡ kept_or old (cond b (Some k) (find (λ (y : Kept). same_name y.name name) ks))
    go true e other same =
        same ∙ ap (kept_or (record { version = k.version; value = k.value })) (none-found (λ (y : Kept). same_name y.name name) ks (λ y s. subst (λ n. same_name y.name n ≡ false) (same_name-eq k.name name e) (differ_turned k.name y.name (first_differs k ks y h s))))
    go false e other same = other

kept_or-start : (o : Option Kept) → kept_or (record { version = 0; value = [] }) o ≡ kept_copy o
kept_or-start None = refl
kept_or-start (Some k) = refl

pub copied : (kept : List Kept) (name : List ℕ) → Ascend kept → copy_after (map payload_of kept) name ≡ kept_copy (find (λ (k : Kept). same_name k.name name) kept)
copied kept name h = copied_from name (record { version = 0; value = [] }) kept h ∙ kept_or-start (find (λ (k : Kept). same_name k.name name) kept)
