use Rattle.std.proofs.Common.{◌∙◌}
use Rattle.judge.proofs.InWay.{refuses_exactly}
use Rattle.judge.proofs.newest.refuses.Goals as goal

pub returns : goal.returns
returns g c = λ olds are.
    c.refused.ensures.refused ∙ refuses_exactly g.C.BySight.counts g.C.Certifier.tests g.met.C.BySight.goes_by_sight c.args.newest.now c.args.new.now c.refused.ensures.formed olds are
