use Rattle.protocol_laws.proofs.Exchanges.{exchange-additions}
use Rattle.protocol_laws.proofs.exchange.additions_exchange.Goals as goal

pub returns : goal.returns
returns c = exchange-additions
