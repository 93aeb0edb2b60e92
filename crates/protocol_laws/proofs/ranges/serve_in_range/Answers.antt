use Rattle.protocol_laws.proofs.RangesWorld.{serve-in_range}
use Rattle.protocol_laws.proofs.ranges.serve_in_range.Goals as goal

pub returns : goal.returns
returns c = serve-in_range
