-- Promises: roles, state epochs and promises fit together, and a node's rows are what it held.
use Rattle.std.specs.Prelude.{◌≡◌, ℕ, ◌<◌, ◌≤◌, Some, IsTrue, ◌⊎◌}
use Rattle.tcs_terms.specs.Logs.{AreRows}
use Rattle.tcs_terms.specs.Places.{Membership}
use Rattle.tcs_terms.specs.Preparations.{Preparation}
use Rattle.protocol.specs.Pieces.{rows_of}
use Rattle.protocol.specs.Records.{Role, Gathering, NodeRecord}
use Rattle.protocol.specs.Records.Role.{Fenced, Leader, Follower}
use Rattle.protocol.specs.Views.{is_follower}
use Rattle.protocol.specs.World.{World}
use Rattle.protocol.specs.Invariant.Time.{Moment, StandsIn, IsNode, IsStored}
use Rattle.protocol.specs.Invariant.Logs.{entries_of, Reached, Held}

-- a role's configuration is of the node's shard and state epoch
pub record IsOf (node : NodeRecord) (c : Membership) : Type 0 where
  pub shard : c.shard ≡ node.shard
  pub epoch : c.epoch ≡ node.state
  pub promise : node.promised ≡ node.state

-- a leader leads its configuration, a follower follows it; a fenced node promised more than it reached, or nothing yet
abbrev pub FitsRole : NodeRecord → Role → Type 0
FitsRole node Fenced = (node.state < node.promised) ⊎ ((node.state ≡ 0) × (node.promised ≡ 0))
FitsRole node (Leader c) = IsOf node c × (c.leader ≡ node.name)
FitsRole node (Follower c) = IsOf node c × IsTrue (is_follower c node.name)

-- a configuration of a node's shard and state epoch that is stored and has the node as a member
pub record IsMemberAt (t : Moment) (node : NodeRecord) : Type 0 where
  pub config : Membership
  pub stored : IsStored t config
  pub shard : config.shard ≡ node.shard
  pub epoch : config.epoch ≡ node.state
  pub member : StandsIn node.name config.members

-- Of each node: its role fits; in a state epoch it is a member there; what it reached is no later than its state epoch;
-- what it held in its state epoch is in its rows; its rows may stand in a log, as they always might, and so may the rows
-- that it gathers.
pub record PromisesHold (t : Moment) : Type 0 where
  pub roles : (node : NodeRecord) → IsNode t node → FitsRole node node.role
  pub members : (node : NodeRecord) → IsNode t node → 1 ≤ node.state → IsMemberAt t node
  pub reached : (node : NodeRecord) (epoch : ℕ) → IsNode t node → Reached t epoch node.name → epoch ≤ node.state
  pub held : (node : NodeRecord) (entry : Preparation) → IsNode t node → Held t node.state node.name entry → StandsIn entry (entries_of node.rows)
  pub rows : (node : NodeRecord) → IsNode t node → AreRows node.rows
  pub rows_before : (w : World) (node : NodeRecord) → StandsIn w t.before → StandsIn node w.nodes → AreRows node.rows
  pub gathered : (node : NodeRecord) (g : Gathering) → IsNode t node → node.gathering ≡ Some g → AreRows (rows_of g.kept)
