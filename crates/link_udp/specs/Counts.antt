-- A link over sockets, as its callers see it.
use Rattle.std.specs.Prelude.{ℕ}

-- how often `attach` and `poll` have failed, and how often `send` has
pub record Counts : Type 0 where
  pub faults : ℕ
  pub failed_sends : ℕ
