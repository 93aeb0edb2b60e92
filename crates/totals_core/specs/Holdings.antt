-- What is gathered of the nodes of a world: of each its shard, and the sums over its committed rows.
use Rattle.std.specs.Prelude.{◌≡◌, ℕ, ◌<◌, ◌≤◌, if◌then◌else◌, List, fold, max, length, map, true}
use Rattle.std.specs.List.{range_with_len}
use Rattle.std.specs.Option.{unwrap_or}
use Rattle.tcs_terms.specs.declared.limits.TheConstants.{MAX_NODES}
use Rattle.tcs_terms.specs.Shards.{lies_in}
use Rattle.protocol.specs.CorrectHistory.{agrees}
use Rattle.protocol.specs.Invariant.Time.{StandsIn}
use Rattle.protocol.specs.Records.{NodeRecord}
use Rattle.protocol.specs.World.{World}
use Rattle.counters.specs.declared.limits.TheConstants.{MAX_PAYLOADS}
use Rattle.counters.specs.Amounts.{committed_in}
use Rattle.counters.specs.Sums.{AreSums, sum_at}
use Rattle.totals_core.specs.declared.holdings.Holding.{Holding}

-- of this node
pub record IsOf (h : Holding) (node : NodeRecord) : Type 0 where
  pub shard : h.shard ≡ node.shard
  pub sums : AreSums h.sums (committed_in node.rows)

-- a node of these that a holding is of
pub record OfOne (h : Holding) (nodes : List NodeRecord) : Type 0 where
  pub node : NodeRecord
  pub there : StandsIn node nodes
  pub is : IsOf h node

-- a holding among these that is of a node
pub record HasOne (holdings : List Holding) (node : NodeRecord) : Type 0 where
  pub holding : Holding
  pub there : StandsIn holding holdings
  pub is : IsOf holding node

-- those of the nodes whose names are below this one
pub record AreBelow (holdings : List Holding) (nodes : List NodeRecord) (name : ℕ) : Type 0 where
  pub each : (h : Holding) → StandsIn h holdings → OfOne h nodes
  pub all : (node : NodeRecord) → StandsIn node nodes → node.name < name → HasOne holdings node

-- those of all nodes
pub record AreHoldings (holdings : List Holding) (nodes : List NodeRecord) : Type 0 where
  pub each : (h : Holding) → StandsIn h holdings → OfOne h nodes
  pub all : (node : NodeRecord) → StandsIn node nodes → HasOne holdings node

-- what a holding has of a counter, where it lies in the node's shard
abbrev pub holding_of : ℕ → List ℕ → Holding → ℕ
holding_of shards name h = if lies_in shards h.shard name then unwrap_or (sum_at h.sums name) 0 else 0

-- the greatest of these
abbrev pub held_by : ℕ → List Holding → List ℕ → ℕ
held_by shards holdings name = fold (λ most h. max most (holding_of shards name h)) 0 holdings

-- what is known of the world of each run that is live: its nodes are numbered, and have few rows; its history agrees, and
-- has fewer notes than payloads can be summed
pub record IsCountable (w : World) : Type 0 where
  pub count : ℕ
  pub names : map (λ n. n.name) w.nodes ≡ range_with_len 1 count
  pub few : count ≤ MAX_NODES
  pub rows : (node : NodeRecord) → StandsIn node w.nodes → length node.rows ≤ 4096
  pub agreement : agrees w.history ≡ true
  pub notes : length w.history < MAX_PAYLOADS
