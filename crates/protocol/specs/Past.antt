-- Each element of a list with those before it.
use Rattle.std.specs.Prelude.{List, [], ◌∷◌, ◌++◌, Bool, ◌&&◌}
use Rattle.std.specs.List.{list_any}

-- the same, where others stand before the list
abbrev pub after_past : {X : Type 0} → List X → List X → List (List X × X)
after_past past [] = []
after_past past (x ∷ xs) = (past, x) ∷ after_past (past ++ x ∷ []) xs

-- each element with those before it
abbrev pub with_past : {X : Type 0} → List X → List (List X × X)
with_past xs = after_past [] xs

-- whether an element that passes the first test stands before one that passes the second
abbrev pub stands_before : {X : Type 0} → (X → Bool) → (X → Bool) → List X → Bool
stands_before first second xs = list_any (λ e. second e.1 && list_any first e.0) (with_past xs)
