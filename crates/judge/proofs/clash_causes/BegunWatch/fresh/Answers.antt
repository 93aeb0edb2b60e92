use Rattle.judge.proofs.Keeping.{payloads_none}
use Rattle.judge.proofs.clash_causes.BegunWatch.fresh.Goals as goal

pub returns : goal.returns
returns g c = payloads_none _ c.new.ensures.empty
