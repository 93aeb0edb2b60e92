use Rattle.protocol.specs.Probing.{lower}
use Rattle.prober.specs.Stages.{stage_of}
use Rattle.prober.proofs.StageLaws.{sound_after, lower-IsSafe}
use Rattle.prober.proofs.probers.Prober.lower.Goals as goal

pub invariant_of-self : goal.invariant_of-self
invariant_of-self c =
    let before = stage_of c.self.inside.stage in
    let safe = lower-IsSafe before c.self.invariant in
    let ensures = c.lower.ensures in
    sound_after c.lower.result before (lower before).kept (stage_of c.lower.new.stage) ensures.kept ensures.unchanged c.self.invariant safe.kept

pub returns-clause-in_range : goal.returns-clause-in_range
returns-clause-in_range c =
    rw (← c.self.view_is) (lower-IsSafe (stage_of c.self.inside.stage) c.self.invariant).sends
