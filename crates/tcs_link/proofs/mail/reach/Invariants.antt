-- Empty queues behind the others leave each receiver's frames as they are.
use Rattle.std.proofs.Common.{◌≡◌, ℕ, ◌+◌, ◌-◌, vec_len}
use Rattle.tcs_link.specs.Network.{queue_of}
use Rattle.tcs_link.proofs.mail.reach.Given as goal

abbrev pub invariant-loop-alloc : goal.invariant-loop-alloc
invariant-loop-alloc l = (n : ℕ) → queue_of l.queues.items n ≡ queue_of l.initial.queues.items n

abbrev pub decreases-loop-alloc : goal.decreases-loop-alloc
decreases-loop-alloc l = (l.node + 1) - vec_len l.queues
