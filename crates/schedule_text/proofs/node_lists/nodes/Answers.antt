use Rattle.std.proofs.Common.{◌+◌, ◌-◌, vec_len, sym, arith}
use Rattle.std.proofs.lemmas.Result.{err_from_is_err_and}
use Rattle.schedule_text.specs.Words.{nodes_at}
use Rattle.schedule_text.proofs.NodeLoops.{goes_on, stops_there, no_more, is_full}
use Rattle.schedule_text.proofs.node_lists.nodes.Goals as goal

pub returns-then-len-most : goal.returns-then-len-most
returns-then-len-most c =
    is_full (λ ns. ns.items) c.too_many.result c.args.all.now c.args.shard c.nodes.list.items (c.args.most - vec_len c.nodes.list) c.nodes.last c.nodes.words
    (nodes_at c.args.all.now c.args.shard c.args.most 0 c.args.words.now) (omega arith) (sym c.nodes-test.ensures) c.too_many.ensures c.nodes.invariant.so_far

pub returns-in_err-node : goal.returns-in_err-node
returns-in_err-node c =
    let p = err_from_is_err_and c.from_residual.result c.from_residual.ensures.1 in
    rw (p.1, p.2)
    (stops_there c.args.all.now c.args.shard c.in_err-node.field-0.0 c.nodes.list.items (c.args.most - vec_len c.nodes.list) (c.args.most - (vec_len c.nodes.list + 1)) c.nodes.last c.nodes.words
    (nodes_at c.args.all.now c.args.shard c.args.most 0 c.args.words.now) (omega arith) (sym c.nodes-test.ensures) c.in_err-node.ensures c.nodes.invariant.so_far)

pub nodes-preserved : goal.nodes-preserved
nodes-preserved c = record {
  few = omega arith;
  so_far = rw c.in_ok-push.ensures.items
      (goes_on c.args.all.now c.args.shard c.nodes.list.items (c.args.most - vec_len c.nodes.list) (c.args.most - vec_len c.push.new.self) c.nodes.last c.nodes.words c.in_ok-node.node c.next_node.new.words
      (nodes_at c.args.all.now c.args.shard c.args.most 0 c.args.words.now) (omega (arith, c.in_ok-push.ensures.len)) (sym c.nodes-test.ensures) c.in_ok-node.ensures c.nodes.invariant.so_far);
}

pub returns : goal.returns
returns c =
    no_more c.args.all.now c.args.shard c.nodes.list.items (c.args.most - vec_len c.nodes.list) c.nodes.last c.nodes.words
    (nodes_at c.args.all.now c.args.shard c.args.most 0 c.args.words.now) (sym c.nodes-test.ensures) c.nodes.invariant.so_far
