use Rattle.protocol_laws.specs.Promises.{world_of}
use Rattle.totals_core.specs.Holdings.{AreBelow}
use Rattle.totals_core.proofs.holdings.holdings.Given as goal

abbrev pub invariant-loop-name : goal.invariant-loop-name
invariant-loop-name g l = AreBelow l.all.items (world_of l.world.progress).nodes l.name
