use Rattle.std.proofs.Common.{◌≡◌, ◌*◌, ◌≤◌, take}
use Rattle.counters.specs.declared.limits.TheConstants.{MAX_AMOUNT}
use Rattle.counters.specs.Amounts.{node_total}
use Rattle.counters.proofs.rows.node_total.Given as goal

-- the total over the rows so far
abbrev pub invariant-loop-row : goal.invariant-loop-row
invariant-loop-row l = (l.total ≡ node_total (take l.row-index l.rows) l.name) × (l.total ≤ l.row-index * MAX_AMOUNT)
