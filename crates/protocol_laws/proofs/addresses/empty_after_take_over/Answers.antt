use Rattle.protocol_laws.proofs.EmptyParts.{run-empty_parts}
use Rattle.protocol_laws.proofs.addresses.empty_after_take_over.Goals as goal

pub returns : goal.returns
returns c = run-empty_parts
