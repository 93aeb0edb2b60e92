use Rattle.std.proofs.Common.{◌≡◌, take, false}
use Rattle.std.specs.List.{list_any}
use Rattle.judge.specs.Newest.{refused_by_range}
use Rattle.judge.proofs.newest.refused_by_ranges.Given as goal

abbrev pub invariant-loop-range : goal.invariant-loop-range
invariant-loop-range g l =
    list_any (refused_by_range g.C.Certifier.tests l.new l.newest) (take l.range-index l.ranges) ≡ false
