-- What a list holds where memory ran out while more was appended to it.
use Rattle.std.specs.Prelude.{◌≡◌, List, ◌++◌}

-- these items, and maybe more behind them
pub record Begins {A : Type 0} (front all : List A) : Type 0 where
  pub more : List A
  pub whole : all ≡ front ++ more
