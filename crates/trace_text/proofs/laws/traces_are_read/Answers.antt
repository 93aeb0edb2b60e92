use Rattle.trace_text.proofs.TraceLaws.{trace_read}
use Rattle.trace_text.proofs.laws.traces_are_read.Goals as goal

pub returns : goal.returns
returns c = trace_read
