-- Why numbers are no configuration.
use Rattle.std.specs.Prelude.{ℕ, Bool, ◌&&◌, not, nat_le, if◌then◌else◌, List, length, Option, Some, None}
use Rattle.std.specs.List.{list_all}
use Rattle.tcs_terms.specs.declared.limits.TheConstants.{MAX_NODES, MAX_MEMBERS}
use Rattle.tcs_terms.specs.declared.faults.BadConfig.{BadConfig}
use Rattle.tcs_terms.specs.declared.faults.BadConfig.TheVariants.{Members, Leader, Number}
use Rattle.tcs_terms.specs.Order.{ascends}
use Rattle.tcs_terms.specs.Places.{is_shard, is_node, is_epoch, is_among, Membership}

-- whether these may be the members: 1 to 7 nodes, ascending
abbrev pub may_be_members : List ℕ → Bool
may_be_members members = nat_le 1 (length members) && nat_le (length members) MAX_MEMBERS && list_all is_node members && ascends members

-- what is wrong first: the members, then the leader, then the numbers
abbrev pub config_fault : Membership → Option BadConfig
config_fault c =
    if not (may_be_members c.members) then Some Members
    else if not (is_among c.members c.leader) then Some Leader
    else if not (is_shard c.shard && is_epoch c.epoch && nat_le c.by MAX_NODES) then Some Number
    else None
