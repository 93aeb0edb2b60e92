use Rattle.std.proofs.Common.{◌≡◌, take}
use Rattle.world.specs.Orders.{with_commits}
use Rattle.world.proofs.orders.keep_commits.Given as goal

abbrev pub invariant-loop-note : goal.invariant-loop-note
invariant-loop-note l = l.order.keys ≡ with_commits l.initial.order.keys (take l.note-index l.notes)
