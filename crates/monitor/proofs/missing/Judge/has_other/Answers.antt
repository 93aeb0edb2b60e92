use Rattle.std.proofs.Common.{ℕ, Bool, ◌==◌, sym, ◌∙◌, arith}
use Rattle.std.specs.Prelude.{◌&&◌, not}
use Rattle.tcs_terms.specs.Setups.{is_node_of}
use Rattle.monitor.proofs.Growing.{any_takes, any_leaves}
use Rattle.monitor.proofs.missing.Judge.has_other.Goals as goal
use Rattle.monitor.proofs.missing.Judge.has_other.Goals.{then-is_spare, else-is_spare}

pub loop-node-preserved : goal.loop-node-preserved
loop-node-preserved c =
    let test : ℕ → Bool = λ n. is_node_of c.args.self.now.nodes.now c.args.shard n && not (n == c.args.member) in
    elim c.if-is_spare.branch [
      | then-is_spare w ↦ any_takes test c.loop-node.node c.if-is_spare.found (omega arith) (sym c.is_spare.ensures ∙ w.if-is_spare.true) w.found-is
      | else-is_spare w ↦ any_leaves test c.loop-node.node c.loop-node.found c.if-is_spare.found (omega arith) (sym c.is_spare.ensures ∙ w.if-is_spare.false) c.loop-node.invariant w.found-is
    ]
