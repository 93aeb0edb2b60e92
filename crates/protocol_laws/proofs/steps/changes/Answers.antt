use Rattle.protocol_laws.proofs.ChangeOf.{change_of}
use Rattle.protocol_laws.proofs.steps.changes.Goals as goal

pub returns : goal.returns
returns c = change_of
