use Rattle.protocol.proofs.Start.{start-InvariantHolds}
use Rattle.protocol.proofs.invariant.invariant_at_the_start.Goals as goal

-- src/invariant.rt:10:1
pub returns : goal.returns
returns c = start-InvariantHolds
