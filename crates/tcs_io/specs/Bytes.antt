-- What one call does to the bytes that a source has left, or that a sink holds.
use Rattle.std.specs.Prelude.{◌≡◌, ℕ, ◌<◌, ◌≤◌, List, ◌++◌, length, take, drop, Option, Some}

-- a read moved the next n bytes to the front of the buffer, and leaves the others
pub record Moves (n : ℕ) (rest buffer : List ℕ) (after : Option (List ℕ)) : Type 0 where
  pub enough : n ≤ length rest
  pub given : take n buffer ≡ take n rest
  pub left : after ≡ Some (drop n rest)

-- a sink that held these bytes holds them and a front of the piece, but not the whole piece
pub record HoldsFront (bytes piece : List ℕ) (after : Option (List ℕ)) : Type 0 where
  pub taken : ℕ
  pub short : taken < length piece
  pub held : after ≡ Some (bytes ++ take taken piece)
