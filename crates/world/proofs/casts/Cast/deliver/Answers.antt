use Rattle.std.proofs.Common.{arith}
use Rattle.world.proofs.CastLaws.{done_if, delivered_served, delivered_given}
use Rattle.world.proofs.casts.Cast.deliver.Goals as goal

pub returns-then-to-eq-SERVICE : goal.returns-then-to-eq-SERVICE
returns-then-to-eq-SERVICE g c = done_if _ _ _ _ (delivered_served _ _ _ c.if-to-eq-SERVICE.true) c.serve.ensures

pub returns : goal.returns
returns g c = done_if _ _ _ _ (delivered_given _ _ _ (omega arith)) c.give.ensures
