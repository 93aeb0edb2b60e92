use Rattle.std.proofs.Common.{◌≡◌, ◌-◌, arith}
use Rattle.coordinator.proofs.ViewLaws.{place_is, no_place_at_zero, no_place_past}
use Rattle.coordinator.proofs.views.place_of.Goals as goal

pub returns-then-shard-eq0-clause-place : goal.returns-then-shard-eq0-clause-place
returns-then-shard-eq0-clause-place c = no_place_at_zero c.args.list.now c.args.shard c.requires (omega arith)

pub returns-then-at-list-clause-place : goal.returns-then-at-list-clause-place
returns-then-at-list-clause-place c =
    let same = c.from-at.ensures in
    let at : c.from-at.result - 1 ≡ c.args.shard - 1 = omega arith in
    rw at (place_is c.args.list.now c.args.shard c.requires (omega arith) (omega arith))

pub returns-else-at-list-clause-place : goal.returns-else-at-list-clause-place
returns-else-at-list-clause-place c =
    let same = c.from-at.ensures in
    no_place_past c.args.list.now c.args.shard c.requires (omega arith) (omega arith)
