use Rattle.std.proofs.Common.{refl}
use Rattle.world.proofs.Standing.{standing}
use Rattle.world.proofs.worlds.World.node.Goals as goal

pub returns-in-Some : goal.returns-in-Some
returns-in-Some g c = λ live. rw (← c.self.view_is, c.in-Some.is) refl

pub returns-in-None : goal.returns-in-None
returns-in-None g c = λ live.
    let s = standing _ _ _ _ _ c.self.invariant (rw (← c.self.view_is) at live) c.in-None.is in
    rw (← c.self.view_is, c.in-None.is) (c.node.ensures s.goes_on.named)
