use Rattle.std.proofs.Common.{◌≡◌, ℕ, Bool, ◌==◌, sym, ap, ◌∙◌, arith}
use Rattle.std.specs.Prelude.{◌&&◌, not}
use Rattle.tcs_terms.specs.Setups.{is_node_of}
use Rattle.tcs_terms.proofs.OrderLaws.{filter_takes, filter_leaves}
use Rattle.monitor.proofs.moves.others.Goals as goal
use Rattle.monitor.proofs.moves.others.Goals.{then-is_spare+in_ok-push, else-is_spare}

pub loop-node-preserved : goal.loop-node-preserved
loop-node-preserved c =
    let test : ℕ → Bool = λ n. is_node_of c.args.nodes.now c.args.shard n && not (n == c.args.missed) in
    let tested : c.is_spare.result ≡ test c.loop-node.node = c.is_spare.ensures ∙ ap test c.from.ensures in
    elim c.if-is_spare.branch [
      | then-is_spare+in_ok-push w ↦ filter_takes test c.loop-node.node c.loop-node.list.items c.if-is_spare.list.items (omega arith)
          (sym tested ∙ w.if-is_spare.true) c.loop-node.invariant (ap (λ v. v.items) w.list-is ∙ w.in_ok-push.ensures.items)
      | else-is_spare w ↦ filter_leaves test c.loop-node.node c.loop-node.list.items c.if-is_spare.list.items (omega arith)
          (sym tested ∙ w.if-is_spare.false) c.loop-node.invariant (ap (λ v. v.items) w.list-is)
    ]
