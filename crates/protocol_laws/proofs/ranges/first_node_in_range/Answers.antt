use Rattle.protocol_laws.proofs.RangesStart.{first_node-in_range}
use Rattle.protocol_laws.proofs.ranges.first_node_in_range.Goals as goal

pub returns : goal.returns
returns c = first_node-in_range
