use Rattle.std.proofs.Common.{◌≡◌, ◌+◌, ◌++◌, take}
use Rattle.std.specs.List.{flat_map}
use Rattle.schedule_text.specs.Text.{node_lines, with_feed}
use Rattle.schedule_text.proofs.printing.put_nodes.Given as goal

abbrev pub invariant-nodes : goal.invariant-nodes
invariant-nodes l = record {
  written : l.out.items ≡ l.fn.out.items ++ flat_map with_feed (node_lines 1 (take l.shard-index l.nodes));
  counted : l.node ≡ l.shard-index + 1;
}
