-- What is told of the counters of a world.
use Rattle.std.specs.Prelude.{◌≡◌, ◌⊎◌, ℕ, ◌≤◌, IsTrue, List, ◌++◌, codes, decimal, length}
use Rattle.std.specs.BTreeMap.{IsOrdered}
use Rattle.std.specs.List.{flat_map}
use Rattle.tcs_terms.specs.Shards.{lies_in}
use Rattle.protocol.specs.History.{order_of, payloads_of}
use Rattle.protocol.specs.Invariant.Time.{StandsIn}
use Rattle.protocol.specs.Records.{NodeRecord}
use Rattle.protocol.specs.World.{World}
use Rattle.counters.specs.Amounts.{node_total}
use Rattle.counters.specs.Sums.{Sums, AreSums, name_cmp}

-- a node of the counter's shard, among so many shards, that has so much of it
pub record Holds (shards : ℕ) (nodes : List NodeRecord) (name : List ℕ) (amount : ℕ) : Type 0 where
  pub node : NodeRecord
  pub there : StandsIn node nodes
  pub lies : IsTrue (lies_in shards node.shard name)
  pub has : node_total node.rows name ≡ amount

-- The greatest that a node of the counter's shard has of it: none has more, and one has as much, unless it is nothing.
pub record IsHeld (shards : ℕ) (nodes : List NodeRecord) (name : List ℕ) (most : ℕ) : Type 0 where
  pub least : (node : NodeRecord) → StandsIn node nodes → IsTrue (lies_in shards node.shard name) → node_total node.rows name ≤ most
  pub reached : (most ≡ 0) ⊎ Holds shards nodes name most

-- the line of a counter: its name, the sum over the order of commits, and the greatest that a node has
abbrev pub total_line : (List ℕ → ℕ) → List ℕ × ℕ → List ℕ
total_line held e = codes "total " ++ (e.0 ++ (codes " " ++ (decimal e.1 ++ (codes " " ++ (decimal (held e.0) ++ codes "\n")))))

abbrev pub end_line : ℕ → List ℕ
end_line count = codes "end " ++ (decimal count ++ codes "\n")

-- The text of a world's counters: a line for each to which a committed transaction adds, names ascending, with the sum
-- over the order of commits and the greatest that a node of its shard holds; then the number of these lines.
pub record IsTold (shards : ℕ) (w : World) (text : List ℕ) : Type 0 where
  pub sums : Sums
  pub are : AreSums sums (payloads_of w.history (order_of w.history))
  pub ordered : IsOrdered name_cmp sums
  pub held : List ℕ → ℕ
  pub greatest : (name : List ℕ) → IsHeld shards w.nodes name (held name)
  pub whole : text ≡ flat_map (total_line held) sums.entries ++ end_line (length sums.entries)
