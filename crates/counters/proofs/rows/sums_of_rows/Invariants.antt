use Rattle.std.proofs.Common.{take}
use Rattle.counters.specs.Amounts.{committed_in}
use Rattle.counters.specs.Sums.{AreSums}
use Rattle.counters.proofs.rows.sums_of_rows.Given as goal

abbrev pub invariant-loop-row : goal.invariant-loop-row
invariant-loop-row l = AreSums l.sums (committed_in (take l.row-index l.rows))
