use Rattle.std.proofs.Common.{◌≡◌, take}
use Rattle.totals_core.specs.Holdings.{held_by}
use Rattle.totals_core.proofs.holdings.greatest.Given as goal

abbrev pub invariant-loop-holding : goal.invariant-loop-holding
invariant-loop-holding l = l.most ≡ held_by l.shards (take l.holding-index l.holdings) l.name
