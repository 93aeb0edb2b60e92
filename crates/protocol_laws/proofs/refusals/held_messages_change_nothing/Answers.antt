use Rattle.protocol_laws.proofs.RefusedInputs.{serve-refused}
use Rattle.protocol_laws.proofs.refusals.held_messages_change_nothing.Goals as goal

pub returns : goal.returns
returns c = serve-refused
