-- A mark for each name, so that no list of names is searched.
use Rattle.std.specs.Prelude.{◌≡◌, ℕ, ◌<◌, Bool, false, List, length, slice_index_or}
use Rattle.tcs_terms.specs.Places.{is_among}

-- the marks of these names stand, and no other
pub record AreMarks (names : List ℕ) (marks : List Bool) : Type 0 where
  pub count : length marks ≡ 256
  pub each : (name : ℕ) → name < 256 → slice_index_or marks name false ≡ is_among names name
