use Rattle.trace_laws.proofs.TraceOf.{run_is_trace}
use Rattle.trace_laws.proofs.traces.runs_have_traces.Goals as goal

pub returns : goal.returns
returns c = run_is_trace
