use Rattle.protocol.proofs.Moments.{time_after-now}
use Rattle.protocol.proofs.invariant.past_is_remembered.Goals as goal

pub returns : goal.returns
returns c = time_after-now
