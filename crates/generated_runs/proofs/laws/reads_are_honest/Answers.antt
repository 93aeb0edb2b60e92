use Rattle.generated_runs.proofs.Honest.{always_honest}
use Rattle.generated_runs.proofs.laws.reads_are_honest.Goals as goal

pub returns : goal.returns
returns c = λ seed count place. (always_honest seed count place).honest
