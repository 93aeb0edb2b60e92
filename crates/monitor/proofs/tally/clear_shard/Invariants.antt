-- So far the nodes below this one are passed.
use Rattle.std.proofs.Common.{◌≡◌, ◌-◌}
use Rattle.std.specs.Prelude.{fold, if◌then◌else◌}
use Rattle.std.specs.List.{range_with_len}
use Rattle.tcs_terms.specs.Setups.{is_node_of}
use Rattle.monitor.specs.Tally.{cleared}
use Rattle.monitor.proofs.tally.clear_shard.Given as goal

abbrev pub invariant-loop-node : goal.invariant-loop-node
invariant-loop-node l = l.counts ≡ fold (λ counts n. if is_node_of l.nodes l.shard n then cleared counts n else counts) l.initial.counts (range_with_len 1 (l.node - 1))
