use Rattle.protocol_laws.proofs.RangesRun.{run-in_range}
use Rattle.protocol_laws.proofs.ranges.run_in_range.Goals as goal

pub returns : goal.returns
returns c = run-in_range
