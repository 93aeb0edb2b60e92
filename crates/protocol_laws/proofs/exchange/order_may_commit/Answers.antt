use Rattle.protocol_laws.proofs.Exchanges.{legal-may_commit}
use Rattle.protocol_laws.proofs.exchange.order_may_commit.Goals as goal

pub returns : goal.returns
returns c = legal-may_commit
