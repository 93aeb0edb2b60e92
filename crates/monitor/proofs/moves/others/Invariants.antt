-- So far the other nodes of the shard below this one are listed.
use Rattle.std.proofs.Common.{◌≡◌, ◌-◌, ◌==◌}
use Rattle.std.specs.Prelude.{◌&&◌, not, filter}
use Rattle.std.specs.List.{range_with_len}
use Rattle.tcs_terms.specs.Setups.{is_node_of}
use Rattle.monitor.proofs.moves.others.Given as goal

abbrev pub invariant-loop-node : goal.invariant-loop-node
invariant-loop-node l = l.list.items ≡ filter (λ n. is_node_of l.nodes l.shard n && not (n == l.missed)) (range_with_len 1 (l.node - 1))
