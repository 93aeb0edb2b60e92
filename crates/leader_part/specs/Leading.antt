-- What a leader keeps.
use Rattle.std.specs.Prelude.{List}
use Rattle.tcs_terms.specs.declared.logs.Row.{Row}
use Rattle.tcs_terms.specs.Places.{Membership}

-- the configuration that it leads, and its rows
pub record LeaderState : Type 0 where
  pub config : Membership
  pub rows : List Row
