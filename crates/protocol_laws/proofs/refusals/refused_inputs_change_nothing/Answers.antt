use Rattle.protocol_laws.proofs.RefusedInputs.{step-refused}
use Rattle.protocol_laws.proofs.refusals.refused_inputs_change_nothing.Goals as goal

pub returns : goal.returns
returns c = step-refused
