use Rattle.std.proofs.Common.{IsTrue}
use Rattle.protocol.specs.Probing.{awaits, on_stored}
use Rattle.prober.specs.Stages.{stage_of}
use Rattle.prober.proofs.StageLaws.{sound_after, on_stored-IsSafe}
use Rattle.prober.proofs.probers.Prober.on_stored.Goals as goal

pub invariant_of-self : goal.invariant_of-self
invariant_of-self c =
    let before = stage_of c.self.inside.stage in
    let config = c.args.config.now in
    let ensures = c.on_stored.ensures in
    let awaited : IsTrue (awaits before config c.requires.0) = rw (c.self.view_is) c.requires.1 in
    let safe = on_stored-IsSafe c.args.me c.requires.0 before config ensures.config awaited c.self.invariant in
    sound_after c.on_stored.result before (on_stored c.args.me before config).kept (stage_of c.on_stored.new.stage) ensures.kept ensures.unchanged c.self.invariant safe.kept

pub returns-clause-in_range : goal.returns-clause-in_range
returns-clause-in_range c =
    let before = stage_of c.self.inside.stage in
    let config = c.args.config.now in
    let awaited : IsTrue (awaits before config c.requires.0) = rw (c.self.view_is) c.requires.1 in
    rw (← c.self.view_is) (on_stored-IsSafe c.args.me c.requires.0 before config c.on_stored.ensures.config awaited c.self.invariant).sends
