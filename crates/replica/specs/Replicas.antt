-- What a node keeps for its own shard.
use Rattle.std.specs.Prelude.{ℕ, Bool, ◌&&◌, ◌==◌, nat_le, List, Option}
use Rattle.tcs_terms.specs.declared.logs.Row.{Row}
use Rattle.tcs_terms.specs.Places.{Membership}
use Rattle.protocol.specs.Records.{Role, Gathering, NodeRecord}
use Rattle.protocol.specs.Views.{is_follower}
use Rattle.replica.specs.Duties.{DutyState, least_of}

-- The fields of a node that the rules of its shard read and write; their meaning is that of `NodeRecord`. A replica is
-- spent once memory ran out in a call.
pub record ReplicaState : Type 0 where
  pub name : ℕ
  pub shard : ℕ
  pub role : Role
  pub state : ℕ
  pub promised : ℕ
  pub rows : List Row
  pub gathering : Option Gathering
  pub spent : Bool

-- a node with these fields put in; what else it keeps stays
abbrev pub within : NodeRecord → ReplicaState → NodeRecord
within node replica = record node {
  name = replica.name;
  shard = replica.shard;
  role = replica.role;
  state = replica.state;
  promised = replica.promised;
  rows = replica.rows;
  gathering = replica.gathering;
}

-- what the node does in its shard
abbrev pub duty_in : ReplicaState → DutyState
duty_in replica = record { role = replica.role; state = replica.state; promised = replica.promised; rows = replica.rows }

-- `may_follow` of the rules, of whichever node these fields are in
abbrev pub can_follow : ReplicaState → Membership → Bool
can_follow replica config = (config.shard == replica.shard) && nat_le (least_of (duty_in replica)) config.epoch && is_follower config replica.name
