use Rattle.std.proofs.Common.{take, arith}
use Rattle.std.specs.List.{flat_map}
use Rattle.schedule_text.specs.Text.{node_lines, with_feed}
use Rattle.tcs_terms.proofs.Appending.{stops_behind}
use Rattle.schedule_text.proofs.PrintLemmas.{one_more_node}
use Rattle.schedule_text.proofs.printing.put_nodes.Goals as goal

pub returns-in_err-put_node-clause-err : goal.returns-in_err-put_node-clause-err
returns-in_err-put_node-clause-err c =
    stops_behind c.from_residual.result _ (flat_map with_feed (node_lines 1 (take c.nodes.shard-index c.args.nodes.now))) c.nodes.out.items _ c.nodes.invariant.written
    c.in_err-put_node.ensures.err

pub nodes-preserved : goal.nodes-preserved
nodes-preserved c = record {
  written = one_more_node c.args.out.now.items c.put_node.new.out.items c.nodes.out.items c.args.nodes.now c.nodes.shard-index 0 c.nodes.node c.nodes-test.true
      c.nodes.invariant.counted c.nodes.invariant.written c.in_ok-put_node.ensures.ok;
  counted = omega arith;
}
