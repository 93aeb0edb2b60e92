use Rattle.std.proofs.Common.{◌≡◌, ◌+◌, arith, subst}
use Rattle.tcs_terms.specs.declared.limits.TheConstants.{MAX_NODES}
use Rattle.totals_core.specs.Holdings.{AreBelow}
use Rattle.totals_core.proofs.HeldBy.{below_all, below_first}
use Rattle.totals_core.proofs.holdings.holdings.Goals as goal

pub loop-name-init : goal.loop-name-init
loop-name-init g c = rw c.new-all.ensures.items (below_first _ c.requires.countable.count c.requires.countable.names)

pub loop-name-preserved : goal.loop-name-preserved
loop-name-preserved g c = c.in_ok-hold.ensures c.loop-name.invariant

pub returns : goal.returns
returns g c =
    let done : c.loop-name.name ≡ MAX_NODES + 1 = omega arith in
    below_all _ c.loop-name.all.items c.requires.countable (subst (AreBelow c.loop-name.all.items _) done c.loop-name.invariant)
