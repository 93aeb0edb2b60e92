use Rattle.quorum_protocol.specs.World.{run, history}
use Rattle.quorum_protocol.proofs.Events.{run_has, step_turns}
use Rattle.quorum_protocol.proofs.laws.stored_was_proposed.Goals as goal

pub returns : goal.returns
returns c n es e note h = ((step_turns (run n es) es (history n es) (run_has n es) e).note note h).proposed
