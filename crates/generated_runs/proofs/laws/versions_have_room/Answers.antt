use Rattle.std.proofs.Common.{arith}
use Rattle.generated_runs.specs.Runs.{generated}
use Rattle.generated_runs.proofs.Fitting.{is_ready, has_room}
use Rattle.generated_runs.proofs.laws.versions_have_room.Goals as goal

pub returns : goal.returns
returns c = λ seed count place few live.
    has_room place (generated seed count place).course.transfer (omega (arith, few)) (is_ready seed count place (omega (arith, few)) live).up_to
