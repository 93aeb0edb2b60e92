use Rattle.protocol_laws.proofs.OrderOn.{order-on}
use Rattle.protocol_laws.proofs.growth.order_goes_on.Goals as goal

pub returns : goal.returns
returns c = order-on
