use Rattle.generated_runs.proofs.Promised.{kept}
use Rattle.generated_runs.proofs.laws.promises_are_kept.Goals as goal

pub returns : goal.returns
returns c = kept
