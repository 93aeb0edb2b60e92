use Rattle.protocol_laws.proofs.LimitedRuns.{limit_holds}
use Rattle.protocol_laws.proofs.limits.limit_cuts.Goals as goal

-- src/limits.rt:13:1
pub returns : goal.returns
returns c = limit_holds
