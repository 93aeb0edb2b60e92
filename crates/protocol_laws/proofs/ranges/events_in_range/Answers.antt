use Rattle.protocol_laws.proofs.RangesStart.{event-in_range}
use Rattle.protocol_laws.proofs.ranges.events_in_range.Goals as goal

pub returns : goal.returns
returns c = event-in_range
