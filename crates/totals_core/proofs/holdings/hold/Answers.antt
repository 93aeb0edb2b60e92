use Rattle.std.proofs.Common.{sym}
use Rattle.totals_core.proofs.HeldBy.{below_found, below_none, found_there}
use Rattle.totals_core.proofs.holdings.hold.Goals as goal

pub sums_of_rows-requires : goal.sums_of_rows-requires
sums_of_rows-requires g c =
    rw c.rows.ensures (c.requires.countable.rows c.in-Some.node.now.kept (found_there _ c.args.name _ (sym (c.in-Some.ensures c.requires.lives))).0)

pub returns-in_ok-push-in-Some : goal.returns-in_ok-push-in-Some
returns-in_ok-push-in-Some g c = λ below.
    rw c.in_ok-push-in-Some.ensures.items
    (below_found _ c.requires.countable.count c.args.name c.args.all.now.items _ c.in-Some.node.now.kept c.requires.countable.names (sym (c.in-Some.ensures c.requires.lives))
    (record { shard = c.shard.ensures; sums = rw c.rows.ensures at c.in_ok-sums_of_rows-in-Some.ensures }) below)

pub returns-in-None : goal.returns-in-None
returns-in-None g c = λ below. below_none _ c.args.name c.args.all.now.items (sym (c.in-None.ensures c.requires.lives)) below
