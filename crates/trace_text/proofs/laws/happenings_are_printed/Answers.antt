use Rattle.trace_text.proofs.TraceLaws.{event_printed}
use Rattle.trace_text.proofs.laws.happenings_are_printed.Goals as goal

pub returns : goal.returns
returns c = event_printed
