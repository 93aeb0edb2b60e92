-- Why what a run is to start from is no setup.
use Rattle.std.specs.Prelude.{ℕ, ◌+◌, Bool, true, ◌&&◌, ◌||◌, not, ◌==◌, nat_le, if◌then◌else◌, List, [], ◌∷◌, length, Option, Some, None}
use Rattle.std.specs.List.{list_all}
use Rattle.tcs_terms.specs.declared.limits.TheConstants.{MAX_SHARDS, MAX_NODES}
use Rattle.tcs_terms.specs.declared.faults.BadSetup.{BadSetup}
use Rattle.tcs_terms.specs.declared.faults.BadSetup.TheVariants.{Version, Shards, Nodes, Configs}
use Rattle.tcs_terms.specs.Places.{Membership}
use Rattle.tcs_terms.specs.Setups.{Deployment, is_first}

-- whether these are first configurations of the shards from this one on, in order
abbrev pub firsts_from : List ℕ → ℕ → List Membership → Bool
firsts_from nodes shard [] = true
firsts_from nodes shard (c ∷ cs) = (c.shard == shard) && (is_first nodes c && firsts_from nodes (shard + 1) cs)

-- whether these are the shards of 1 to 64 nodes, among so many shards
abbrev pub may_be_nodes : ℕ → List ℕ → Bool
may_be_nodes shards nodes = nat_le 1 (length nodes) && nat_le (length nodes) MAX_NODES && list_all (λ s. nat_le 1 s && nat_le s shards) nodes

-- what is wrong first: the version, the number of shards, the nodes, the configurations
abbrev pub setup_fault : Deployment → Option BadSetup
setup_fault d =
    if not ((d.version == 1) || (d.version == 2)) then Some Version
    else if not (nat_le 1 d.shards && nat_le d.shards MAX_SHARDS) then Some Shards
    else if not (may_be_nodes d.shards d.nodes) then Some Nodes
    else if not ((length d.configs == d.shards) && firsts_from d.nodes 1 d.configs) then Some Configs
    else None
