use Rattle.protocol_laws.proofs.RunsOn.{ran-run}
use Rattle.protocol_laws.proofs.growth.results_of_run.Goals as goal

pub returns : goal.returns
returns c = ran-run
