use Rattle.protocol_laws.proofs.Exchanges.{exchange-prepared}
use Rattle.protocol_laws.proofs.exchange.neighbours_exchange.Goals as goal

pub returns : goal.returns
returns c = exchange-prepared
