-- A source and a sink in memory, as their callers see them.
use Rattle.std.specs.Prelude.{ℕ, List}
use Rattle.tcs_io.specs.Plan.{Plan}

-- the bytes that are left, how many of them a read gives at most, and which calls fail
pub record Supply : Type 0 where
  pub left : List ℕ
  pub most : ℕ
  pub plan : Plan

-- the bytes that were taken, and which calls fail
pub record Store : Type 0 where
  pub bytes : List ℕ
  pub plan : Plan
