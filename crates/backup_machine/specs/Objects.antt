-- The objects of a backup: what is kept, in a range of names.
use Rattle.std.specs.Prelude.{ℕ, Bool, true, false, not, ◌&&◌, nat_le, nat_lt, List, ◌∷◌, [], map, Option, Some, None, IsTrue}
use Rattle.std.specs.List.{list_all}
use Rattle.tcs_terms.specs.Order.{name_before, names_ascend}
use Rattle.backup_machine.specs.declared.objects.Kept.{Kept}

-- whether a name is one of the range: at `from` or behind it, and before `upto`
abbrev pub in_range : List ℕ → List ℕ → List ℕ → Bool
in_range from upto name = not (name_before name from) && name_before name upto

-- whether a name stands behind the last one, where there is one
abbrev pub comes_after : Option (List ℕ) → List ℕ → Bool
comes_after None name = true
comes_after (Some last) name = name_before last name

-- a version that can be kept: above 0, and with one above it
abbrev pub is_kept_version : ℕ → Bool
is_kept_version version = nat_le 1 version && nat_lt version 18446744073709551615

-- The range is not empty; names strictly ascend, and are of the range; each version can be kept.
pub record AreOf (from upto : List ℕ) (kept : List Kept) : Type 0 where
  pub span : IsTrue (name_before from upto)
  pub ascend : IsTrue (names_ascend (map (λ (k : Kept). k.name) kept))
  pub within : IsTrue (list_all (λ (k : Kept). in_range from upto k.name) kept)
  pub versions : IsTrue (list_all (λ (k : Kept). is_kept_version k.version) kept)

-- whether no kept name stands behind the last one that was given
abbrev pub none_behind : Option (List ℕ) → List Kept → Bool
none_behind None [] = true
none_behind None (k ∷ ks) = false
none_behind (Some last) kept = list_all (λ (k : Kept). not (name_before last k.name)) kept
