use Rattle.std.proofs.Common.{refl}
use Rattle.world.proofs.CastLaws.{none_there, some_there}
use Rattle.world.proofs.casts.Cast.deliver_number.Goals as goal

pub returns-in-None : goal.returns-in-None
returns-in-None g c =
    let e = c.nothing.ensures in
    rw (none_there _ (rw c.in-None.is at c.in_ok-taken.ensures)) (record { result = e.result; from = e.from; sends = e.sends; notes = e.notes; after = refl })

pub deliver-requires : goal.deliver-requires
deliver-requires g c = (some_there _ _ (rw c.in-Some.is at c.in_ok-taken.ensures)).1

pub returns-in-Some : goal.returns-in-Some
returns-in-Some g c = rw (some_there _ _ (rw c.in-Some.is at c.in_ok-taken.ensures)).0 c.deliver.ensures
