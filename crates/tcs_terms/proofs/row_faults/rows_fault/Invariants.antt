use Rattle.std.proofs.Common.{◌≡◌, [], drop}
use Rattle.tcs_terms.specs.RowFaults.{rows_fault}
use Rattle.tcs_terms.proofs.row_faults.rows_fault.Given as goal

abbrev pub invariant-loop-i : goal.invariant-loop-i
invariant-loop-i l = rows_fault l.i l.last l.seen.keys (drop l.i l.list) ≡ rows_fault 0 0 [] l.list
