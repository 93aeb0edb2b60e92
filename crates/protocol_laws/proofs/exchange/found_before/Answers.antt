use Rattle.protocol_laws.proofs.CopyBefore.{copy-found}
use Rattle.protocol_laws.proofs.exchange.found_before.Goals as goal

pub returns : goal.returns
returns c = copy-found
