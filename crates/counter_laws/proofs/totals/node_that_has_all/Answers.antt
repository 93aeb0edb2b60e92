use Rattle.counter_laws.proofs.NodeHasAll.{has_as_much}
use Rattle.counter_laws.proofs.totals.node_that_has_all.Goals as goal

pub returns : goal.returns
returns c = λ tests setup events w count bytes kept are. has_as_much tests setup events w count bytes kept are
