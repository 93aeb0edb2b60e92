-- What a contract sees of a node.
use Rattle.std.specs.Prelude.{ℕ, Bool}
use Rattle.protocol.specs.Records.{NodeRecord}

-- the version of the protocol that it follows, what it keeps, in the words of the rules, and whether it is spent: then
-- each step refuses for memory
pub record NodeState : Type 0 where
  pub version : ℕ
  pub kept : NodeRecord
  pub spent : Bool
