use Rattle.protocol_laws.proofs.AmongNodes.{run-among_nodes}
use Rattle.protocol_laws.proofs.addresses.transactions_stay_among_nodes.Goals as goal

pub returns : goal.returns
returns c = run-among_nodes
