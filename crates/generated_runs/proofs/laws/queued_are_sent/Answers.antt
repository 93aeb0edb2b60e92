use Rattle.generated_runs.proofs.Queued.{always_sent}
use Rattle.generated_runs.proofs.laws.queued_are_sent.Goals as goal

pub returns : goal.returns
returns c = always_sent
