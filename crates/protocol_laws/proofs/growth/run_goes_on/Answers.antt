use Rattle.protocol_laws.proofs.RunsOn.{limited_run-on}
use Rattle.protocol_laws.proofs.growth.run_goes_on.Goals as goal

pub returns : goal.returns
returns c = limited_run-on
