use Rattle.protocol_laws.proofs.RunsOn.{run-counted}
use Rattle.protocol_laws.proofs.growth.counts_hold.Goals as goal

pub returns : goal.returns
returns c = run-counted
