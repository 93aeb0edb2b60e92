use Rattle.std.proofs.Common.{◌≡◌, length}
use Rattle.tcs_terms.specs.Order.{ascends}
use Rattle.tcs_terms.proofs.order.ascends.Given as goal

abbrev pub invariant-loop-left : goal.invariant-loop-left
invariant-loop-left l = ascends l.left ≡ ascends l.numbers

abbrev pub decreases-loop-left : goal.decreases-loop-left
decreases-loop-left l = length l.left
