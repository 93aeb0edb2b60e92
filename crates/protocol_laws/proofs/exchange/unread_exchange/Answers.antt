use Rattle.protocol_laws.proofs.Exchanges.{exchange-unread}
use Rattle.protocol_laws.proofs.exchange.unread_exchange.Goals as goal

pub returns : goal.returns
returns c = exchange-unread
