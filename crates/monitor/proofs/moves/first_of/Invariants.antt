-- So far this is the first of the nodes before.
use Rattle.std.proofs.Common.{◌≡◌, take}
use Rattle.monitor.specs.Moves.{first_of}
use Rattle.monitor.proofs.moves.first_of.Given as goal

abbrev pub invariant-loop-node : goal.invariant-loop-node
invariant-loop-node l = l.best ≡ first_of l.counts l.initial.best (take l.node-index l.nodes)
