use Rattle.std.proofs.Common.{◌≡◌, take}
use Rattle.quorum_config.proofs.reading.nodes_of.Given as goal

abbrev pub invariant-loop-number : goal.invariant-loop-number
invariant-loop-number l = l.nodes.items ≡ take l.number-index l.numbers
