use Rattle.std.proofs.Common.{ℕ, ◌<◌, get_or}
use Rattle.tcs_terms.specs.declared.logs.Row.{Row}
use Rattle.tcs_terms.specs.Messages.{IsEntry}
use Rattle.tcs_terms.proofs.ranges.are_entries.Given as goal

abbrev pub invariant-loop-row : goal.invariant-loop-row
invariant-loop-row l = (k : ℕ) (d : Row) → k < l.row-index → IsEntry (get_or l.rows k d).entry
