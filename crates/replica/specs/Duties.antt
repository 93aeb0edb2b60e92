-- What a node does in its shard, as the code keeps it and as the rules speak of it.
use Rattle.std.specs.Prelude.{ℕ, ◌+◌, max, Bool, true, ◌==◌, List, [], Option, Some, None}
use Rattle.tcs_terms.specs.declared.logs.Row.{Row}
use Rattle.tcs_terms.specs.Places.{Membership}
use Rattle.protocol.specs.Records as records
use Rattle.protocol.specs.World.{first_epoch}
use Rattle.replica.specs.declared.roles.Role.{Role}
use Rattle.replica.specs.declared.roles.Role.TheVariants.{Fenced, Leader, Follower}

-- the role of a node, its state epoch, its promise and its rows
pub record DutyState : Type 0 where
  pub role : records.Role
  pub state : ℕ
  pub promised : ℕ
  pub rows : List Row

-- what a role tells of these: the epoch of a leader's or follower's configuration is its state epoch and its promise
abbrev pub duty_of : {G R : Type 0} → Role G R → DutyState
duty_of (Fenced f) = record { role = records.Role.Fenced; state = f.state; promised = f.promised; rows = f.rows }
duty_of (Leader l) = record { role = records.Role.Leader l.config; state = l.config.epoch; promised = l.config.epoch; rows = l.rows }
duty_of (Follower f) = record { role = records.Role.Follower f.config; state = f.config.epoch; promised = f.config.epoch; rows = f.rows }

-- the least epoch that may still be promised or reached
abbrev pub least_of : DutyState → ℕ
least_of duty = max duty.promised (duty.state + 1)

-- the first configuration of a shard, if it is told, has epoch 1
abbrev pub is_first : Option Membership → Bool
is_first None = true
is_first (Some config) = config.epoch == 1

-- what a node begins with in a role: an empty log, in epoch 1 where it is a member
abbrev pub begins_as : records.Role → DutyState
begins_as role = record { role = role; state = first_epoch role; promised = first_epoch role; rows = [] }
