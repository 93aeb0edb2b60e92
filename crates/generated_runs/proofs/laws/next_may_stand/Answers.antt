use Rattle.std.proofs.Common.{arith}
use Rattle.generated_runs.proofs.Fitting.{is_ready}
use Rattle.generated_runs.proofs.laws.next_may_stand.Goals as goal

pub returns : goal.returns
returns c = λ seed count place few live. (is_ready seed count place (omega (arith, few)) live).next
