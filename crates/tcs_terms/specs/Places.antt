-- Shards, nodes and configurations.
use Rattle.std.specs.Prelude.{ℕ, ◌≤◌, Bool, ◌&&◌, ◌==◌, nat_le, List, length, IsTrue}
use Rattle.std.specs.List.{list_all, list_any}
use Rattle.tcs_terms.specs.declared.limits.TheConstants.{MAX_SHARDS, MAX_NODES, MAX_MEMBERS, MAX_EPOCH}
use Rattle.tcs_terms.specs.Order.{ascends}

-- a shard: 1 to 16
abbrev pub is_shard : ℕ → Bool
is_shard s = nat_le 1 s && nat_le s MAX_SHARDS

-- a node: 1 to 64
abbrev pub is_node : ℕ → Bool
is_node n = nat_le 1 n && nat_le n MAX_NODES

-- an epoch: 1 to 1,000,000
abbrev pub is_epoch : ℕ → Bool
is_epoch e = nat_le 1 e && nat_le e MAX_EPOCH

-- at least one shard, ascending within 1 to 16
pub record IsShardSet (shards : List ℕ) : Type 0 where
  pub some : 1 ≤ length shards
  pub each : IsTrue (list_all is_shard shards)
  pub ascend : IsTrue (ascends shards)

-- a configuration: a shard, an epoch, the members, the one of them that leads, and the node that proposed it, or 0
pub record Membership : Type 0 where
  pub shard : ℕ
  pub epoch : ℕ
  pub members : List ℕ
  pub leader : ℕ
  pub by : ℕ

-- whether a node is among these
abbrev pub is_among : List ℕ → ℕ → Bool
is_among nodes n = list_any (λ m. m == n) nodes

-- 1 to 7 members, ascending, the leader among them, and each number in its range
pub record IsMembership (c : Membership) : Type 0 where
  pub some : 1 ≤ length c.members
  pub few : length c.members ≤ MAX_MEMBERS
  pub each : IsTrue (list_all is_node c.members)
  pub ascend : IsTrue (ascends c.members)
  pub leads : IsTrue (is_among c.members c.leader)
  pub shard : IsTrue (is_shard c.shard)
  pub epoch : IsTrue (is_epoch c.epoch)
  pub by : c.by ≤ MAX_NODES
