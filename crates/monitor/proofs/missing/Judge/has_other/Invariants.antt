-- So far this says whether a node below this one is another node of the shard.
use Rattle.std.proofs.Common.{◌≡◌, ◌-◌, ◌==◌}
use Rattle.std.specs.Prelude.{◌&&◌, not}
use Rattle.std.specs.List.{list_any, range_with_len}
use Rattle.tcs_terms.specs.Setups.{is_node_of}
use Rattle.monitor.proofs.missing.Judge.has_other.Given as goal

abbrev pub invariant-loop-node : goal.invariant-loop-node
invariant-loop-node l = l.found ≡ list_any (λ n. is_node_of l.self.nodes.now l.shard n && not (n == l.member)) (range_with_len 1 (l.node - 1))
