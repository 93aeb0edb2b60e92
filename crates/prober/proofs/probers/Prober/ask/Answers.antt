use Rattle.prober.specs.Stages.{stage_of}
use Rattle.prober.proofs.StageLaws.{ask_stage_in_range}
use Rattle.prober.proofs.probers.Prober.ask.Goals as goal

pub returns-clause-in_range : goal.returns-clause-in_range
returns-clause-in_range c =
    rw (← c.self.view_is) (ask_stage_in_range (stage_of c.self.inside.stage) c.self.invariant)
