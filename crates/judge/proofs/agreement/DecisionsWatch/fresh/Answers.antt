use Rattle.judge.proofs.Keeping.{decisions_none}
use Rattle.judge.proofs.agreement.DecisionsWatch.fresh.Goals as goal

pub returns : goal.returns
returns c = decisions_none _ _ c.new.ensures.empty c.new-2.ensures.empty
