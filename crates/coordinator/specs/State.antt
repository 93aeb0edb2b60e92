-- What a contract sees of a coordinator.
use Rattle.std.specs.Prelude.{Bool}
use Rattle.protocol.specs.Records.{Coordinator}

-- what it keeps, in the words of the rules, and whether it is spent: then every call that may want memory refuses for memory
pub record CoordinatorState : Type 0 where
  pub kept : Coordinator
  pub spent : Bool
