use Rattle.generated_runs.proofs.Promised.{copied}
use Rattle.generated_runs.proofs.laws.one_copy.Goals as goal

pub returns : goal.returns
returns c = copied
