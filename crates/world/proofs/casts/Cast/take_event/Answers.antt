use Rattle.std.proofs.Common.{refl}
use Rattle.world.proofs.CastLaws.{done_if, does_call, does_delivery, does_stop}
use Rattle.world.proofs.casts.Cast.take_event.Goals as goal

pub returns-in-Call : goal.returns-in-Call
returns-in-Call g c = rw c.in-Call.is (done_if _ _ _ _ (does_call _ _ _ _ _) c.give.ensures)

pub returns-in-DeliverNumber : goal.returns-in-DeliverNumber
returns-in-DeliverNumber g c = rw c.in-DeliverNumber.is (done_if _ _ _ _ (does_delivery _ _ _ _ _ refl) c.deliver_number.ensures)

pub returns-in-Stop : goal.returns-in-Stop
returns-in-Stop g c = rw c.in-Stop.is (done_if _ _ _ _ (does_stop _ _ _ _) c.stop.ensures)
