use Rattle.std.proofs.Common.{◌≡◌, take}
use Rattle.std.specs.Prelude.{fold}
use Rattle.conflict_index.specs.Candidates.{lowest_by_range}
use Rattle.conflict_index.proofs.lookups.lowest_by_all_ranges.Given as goal

abbrev pub invariant-loop-range : goal.invariant-loop-range
invariant-loop-range g l =
    l.lowest ≡ fold (λ b q. lowest_by_range g.C.Certifier.tests l.query.rows.now l.query.new.now l.kept q b) l.initial.lowest (take l.range-index l.ranges)
