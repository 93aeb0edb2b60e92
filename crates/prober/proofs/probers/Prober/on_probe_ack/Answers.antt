use Rattle.protocol.specs.Probing.{on_probe_ack}
use Rattle.prober.specs.Stages.{stage_of}
use Rattle.prober.proofs.StageLaws.{sound_after, on_probe_ack-IsSafe}
use Rattle.prober.proofs.probers.Prober.on_probe_ack.Goals as goal

pub invariant_of-self : goal.invariant_of-self
invariant_of-self c =
    let before = stage_of c.self.inside.stage in
    let safe = on_probe_ack-IsSafe c.args.me before c.args.from c.args.epoch c.args.state c.requires c.self.invariant in
    let next = (on_probe_ack c.args.me before c.args.from c.args.epoch c.args.state).kept in
    let ensures = c.on_probe_ack.ensures in
    sound_after c.on_probe_ack.result before next (stage_of c.on_probe_ack.new.stage) ensures.kept ensures.unchanged c.self.invariant safe.kept

pub returns-clause-in_range : goal.returns-clause-in_range
returns-clause-in_range c =
    let before = stage_of c.self.inside.stage in
    rw (← c.self.view_is) (on_probe_ack-IsSafe c.args.me before c.args.from c.args.epoch c.args.state c.requires c.self.invariant).sends
