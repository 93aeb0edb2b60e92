use Rattle.std.proofs.Common.{arith}
use Rattle.workload.proofs.Taking.{numbers_fit}
use Rattle.workload.proofs.generations.happen.Goals as goal

pub queue_sent-requires : goal.queue_sent-requires
queue_sent-requires g c = omega (arith, c.messages-before.ensures.few, c.messages.ensures.few, numbers_fit)
