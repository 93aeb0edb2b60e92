use Rattle.std.proofs.Common.{arith}
use Rattle.quorum_protocol.specs.World.{run, history}
use Rattle.quorum_protocol.proofs.Events.{run_has, step_turns}
use Rattle.quorum_protocol.proofs.laws.epochs_are_climbed.Goals as goal

pub returns : goal.returns
returns c n es e note below h top above = ((step_turns (run n es) es (history n es) (run_has n es) e).note note h).climbed below above (omega (arith, top))
