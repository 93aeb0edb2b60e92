use Rattle.audit_laws.proofs.Own.{own_trace-judged}
use Rattle.audit_laws.proofs.traces.own_traces_are_judged_correct.Goals as goal

pub returns : goal.returns
returns c = own_trace-judged
