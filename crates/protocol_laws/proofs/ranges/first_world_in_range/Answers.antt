use Rattle.protocol_laws.proofs.RangesStart.{first_world-in_range}
use Rattle.protocol_laws.proofs.ranges.first_world_in_range.Goals as goal

pub returns : goal.returns
returns c = first_world-in_range
