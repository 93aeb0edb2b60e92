-- What a run starts from.
use Rattle.std.specs.Prelude.{◌≡◌, ℕ, ◌-◌, ◌≤◌, Bool, ◌&&◌, ◌||◌, ◌==◌, nat_le, List, length, map, slice_index, IsTrue, All}
use Rattle.std.specs.List.{list_all, range_with_len}
use Rattle.tcs_terms.specs.declared.limits.TheConstants.{MAX_SHARDS, MAX_NODES}
use Rattle.tcs_terms.specs.declared.setups.Rule.{Rule}
use Rattle.tcs_terms.specs.Places.{Membership, IsMembership}

-- the protocol's version, the rule, the number of shards, the shard of each node, the first configuration of each shard
pub record Deployment : Type 0 where
  pub version : ℕ
  pub rule : Rule
  pub shards : ℕ
  pub nodes : List ℕ
  pub configs : List Membership

-- whether a number names a node
abbrev pub has_node : List ℕ → ℕ → Bool
has_node nodes n = nat_le 1 n && nat_le n (length nodes)

-- whether a number names a node of the shard; nodes are numbered from 1
abbrev pub is_node_of : List ℕ → ℕ → ℕ → Bool
is_node_of nodes shard n = has_node nodes n && (slice_index nodes (n - 1) == shard)

-- whether a configuration is a first one: epoch 1, proposed by nobody, its members nodes of its shard
abbrev pub is_first : List ℕ → Membership → Bool
is_first nodes c = (c.epoch == 1) && (c.by == 0) && list_all (is_node_of nodes c.shard) c.members

-- 1 to 16 shards, 1 to 64 nodes each in one of them, and one first configuration for each shard, in order
pub record IsDeployment (d : Deployment) : Type 0 where
  pub version : IsTrue ((d.version == 1) || (d.version == 2))
  pub some_shards : 1 ≤ d.shards
  pub few_shards : d.shards ≤ MAX_SHARDS
  pub some_nodes : 1 ≤ length d.nodes
  pub few_nodes : length d.nodes ≤ MAX_NODES
  pub nodes : IsTrue (list_all (λ s. nat_le 1 s && nat_le s d.shards) d.nodes)
  pub one_each : map (λ c. c.shard) d.configs ≡ range_with_len 1 d.shards
  pub first : IsTrue (list_all (is_first d.nodes) d.configs)
  pub configs : All IsMembership d.configs
