use Rattle.std.proofs.Common.{ℕ, List, arith}
use Rattle.std.specs.Prelude.{if◌then◌else◌}
use Rattle.tcs_terms.specs.Setups.{is_node_of}
use Rattle.monitor.specs.Tally.{cleared}
use Rattle.monitor.proofs.Growing.{fold_grows}
use Rattle.monitor.proofs.tally.clear_shard.Goals as goal

pub loop-node-preserved : goal.loop-node-preserved
loop-node-preserved c =
    let step : List ℕ → ℕ → List ℕ = λ counts n. if is_node_of c.args.nodes.now c.args.shard n then cleared counts n else counts in
    fold_grows step c.args.counts.now c.loop-node.node c.loop-node.counts c.clear_of.new.counts (omega arith) c.loop-node.invariant c.clear_of.ensures
