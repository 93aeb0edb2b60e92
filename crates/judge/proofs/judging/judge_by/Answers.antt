-- The verdict is that all is right exactly where the history is correct.
use Rattle.judge.proofs.Exact.{exact}
use Rattle.judge.proofs.judging.judge_by.Goals as goal

pub returns-clause-exact : goal.returns-clause-exact
returns-clause-exact g c = exact g.C.Certifier.tests c.args.shards c.args.history.now c.in_ok-verdict.verdict c.in_ok-verdict.ensures
