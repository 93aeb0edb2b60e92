-- The nodes of a run as they are kept.
use Rattle.std.specs.Prelude.{◌≡◌, ℕ, ◌≤◌, List, length, map}
use Rattle.std.specs.List.{AllByRecursion, range_with_len}
use Rattle.tcs_terms.specs.declared.limits.TheConstants.{MAX_NODES}
use Rattle.protocol.specs.Records.{NodeRecord}
use Rattle.node_core.specs.State.{NodeState}

-- at most 64 nodes, each of which follows this version
pub record ArePeers (version : ℕ) (nodes : List NodeState) : Type 0 where
  pub few : length nodes ≤ MAX_NODES
  pub versions : AllByRecursion (λ n. n.version ≡ version) nodes

-- the nodes of a world are numbered from 1 on
abbrev pub AreNamed : List NodeRecord → Type 0
AreNamed nodes = map (λ n. n.name) nodes ≡ range_with_len 1 (length nodes)
