-- What is true of every node between its steps.
use Rattle.std.specs.Prelude.{◌≡◌, Bool, true, false}
use Rattle.std.specs.List.{list_all}
use Rattle.protocol.specs.Records.{NodeRecord}
use Rattle.protocol.specs.ClientRules.{may_exist}
use Rattle.protocol_laws.specs.Ranges.{IsNodeInRange}

-- all that it keeps is in range, and no case is open of a transaction that it is to make yet
pub record IsKept (node : NodeRecord) : Type 0 where
  pub range : IsNodeInRange node
  pub given : list_all (λ e. may_exist node e.0) node.coordinator.cases ≡ true

-- a node that is spent owes nothing
abbrev pub IsKeptUnless : Bool → NodeRecord → Type 0
IsKeptUnless true node = Unit {0}
IsKeptUnless false node = IsKept node
