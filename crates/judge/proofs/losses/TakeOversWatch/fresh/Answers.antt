use Rattle.judge.proofs.Keeping.{taken_none}
use Rattle.judge.proofs.losses.TakeOversWatch.fresh.Goals as goal

pub returns : goal.returns
returns c = taken_none _ c.new.ensures.empty
