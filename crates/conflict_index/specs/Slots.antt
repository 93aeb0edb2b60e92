-- The slots of rows, by index.
use Rattle.std.specs.Prelude.{ℕ, ◌<◌, ◌≤◌, nat_lt, Bool, List, length, map, slice_index}
use Rattle.std.specs.List.{list_all}
use Rattle.tcs_terms.specs.declared.logs.Row.{Row}

-- the slots of rows
abbrev pub slots_of : List Row → List ℕ
slots_of rows = map (λ r. r.entry.slot) rows

-- whether all slots are below this one
abbrev pub slots_below : ℕ → List Row → Bool
slots_below slot rows = list_all (λ s. nat_lt s slot) (slots_of rows)

-- the rows before an index have lower slots, and no row from it on has
pub record SplitsAt (rows : List Row) (slot at : ℕ) : Type 0 where
  pub within : at ≤ length rows
  pub below : (k : ℕ) → k < at → slice_index (slots_of rows) k < slot
  pub from_there : (k : ℕ) → at ≤ k → k < length rows → slot ≤ slice_index (slots_of rows) k
