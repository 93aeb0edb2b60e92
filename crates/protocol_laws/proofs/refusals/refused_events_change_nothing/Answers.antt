use Rattle.protocol_laws.proofs.RefusedInputs.{world-refused}
use Rattle.protocol_laws.proofs.refusals.refused_events_change_nothing.Goals as goal

pub returns : goal.returns
returns c = world-refused
