use Rattle.std.proofs.Common.{◌≡◌, ◌+◌, map, take}
use Rattle.std.specs.List.{AllByRecursion}
use Rattle.protocol.specs.World.{first_nodes}
use Rattle.world.proofs.peers.Peers.first.Given as goal

abbrev pub invariant-loop-shard : goal.invariant-loop-shard
invariant-loop-shard g l = record {
  nodes : map (λ n. n.kept) l.nodes.items ≡ first_nodes l.setup.configs 1 (take l.shard-index l.shards);
  versions : AllByRecursion (λ n. n.version ≡ l.setup.version) l.nodes.items;
  name : l.name ≡ l.shard-index + 1;
}
