use Rattle.protocol_laws.proofs.RangesWorld.{step-in_range}
use Rattle.protocol_laws.proofs.ranges.step_in_range.Goals as goal

pub returns : goal.returns
returns c = step-in_range
