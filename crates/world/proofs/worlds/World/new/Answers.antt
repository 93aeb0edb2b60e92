use Rattle.std.proofs.Common.{refl}
use Rattle.protocol.specs.World.{first_world}
use Rattle.world.proofs.FirstWorlds.{first_goes_on}
use Rattle.world.proofs.worlds.World.new.Goals as goal

pub invariant_of-result : goal.invariant_of-result
invariant_of-result g c =
    rw (c.in_ok-cast.ensures.cast, c.new.ensures, c.new-2.ensures.items, c.new-3.ensures.empty)
    (record { order_is = refl; goes_on = first_goes_on c.args.setup c.in_ok-cast.ensures.setup })

pub returns : goal.returns
unfolding first_world
returns g c = rw (c.in_ok-cast.ensures.cast, c.new.ensures, c.new-2.ensures.items) refl
