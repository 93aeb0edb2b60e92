use Rattle.std.proofs.Common.{arith}
use Rattle.generated_runs.proofs.Fitting.{fits}
use Rattle.generated_runs.proofs.laws.events_may_stand.Goals as goal

pub returns : goal.returns
returns c = λ seed count place few live. (fits seed count place (omega (arith, few)) live).events
