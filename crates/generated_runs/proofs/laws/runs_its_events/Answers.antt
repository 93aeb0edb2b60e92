use Rattle.generated_runs.proofs.Events.{run_is}
use Rattle.generated_runs.proofs.laws.runs_its_events.Goals as goal

pub returns : goal.returns
returns c = run_is
