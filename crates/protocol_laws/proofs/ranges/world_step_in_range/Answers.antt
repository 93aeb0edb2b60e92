use Rattle.protocol_laws.proofs.RangesWorld.{world_step-in_range}
use Rattle.protocol_laws.proofs.ranges.world_step_in_range.Goals as goal

pub returns : goal.returns
returns c = world_step-in_range
