-- So far those of the nodes before this one are listed before which fewer than so many stand.
use Rattle.std.proofs.Common.{◌≡◌, take}
use Rattle.std.specs.Prelude.{filter, count_by, nat_lt}
use Rattle.monitor.specs.Moves.{before}
use Rattle.monitor.proofs.moves.first_ones.Given as goal

abbrev pub invariant-loop-node : goal.invariant-loop-node
invariant-loop-node l = l.list.items ≡ filter (λ n. nat_lt (count_by (λ m. before l.counts m n) l.nodes) l.most) (take l.node-index l.nodes)
