-- Lists that strictly ascend.
use Rattle.std.specs.Prelude.{ℕ, Bool, true, ◌&&◌, nat_lt, List, [], ◌∷◌}
use Rattle.std.specs.Ordering.{is_lt, nat_cmp}
use Rattle.std.specs.Cmp.Lexicographic.{slice_cmp}

-- each element stands before the next
abbrev pub ascends_by : {X : Type 0} → (X → X → Bool) → List X → Bool
ascends_by before [] = true
ascends_by before (x ∷ []) = true
ascends_by before (x ∷ y ∷ zs) = before x y && ascends_by before (y ∷ zs)

-- numbers strictly ascend
abbrev pub ascends : List ℕ → Bool
ascends ns = ascends_by nat_lt ns

-- whether the first name stands before the second, by bytes
abbrev pub name_before : List ℕ → List ℕ → Bool
name_before a b = is_lt (slice_cmp nat_cmp a b)

-- names strictly ascend by bytes
abbrev pub names_ascend : List (List ℕ) → Bool
names_ascend names = ascends_by name_before names
