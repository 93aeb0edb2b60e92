use Rattle.std.proofs.Common.{sym, ◌∙◌}
use Rattle.tcs_terms.proofs.RowLaws.{are_rows_without_fault}
use Rattle.tcs_terms.proofs.logs.Rows.build.Goals as goal

pub invariant_of-result : goal.invariant_of-result
invariant_of-result c = are_rows_without_fault c.args.list.items (rw c.deref.ensures.value at (sym c.in-Ok-None.ensures ∙ c.in-Ok-None.field-0-is))

pub returns-in-Ok-None-clause-ok : goal.returns-in-Ok-None-clause-ok
returns-in-Ok-None-clause-ok c = are_rows_without_fault c.args.list.items (rw c.deref.ensures.value at (sym c.in-Ok-None.ensures ∙ c.in-Ok-None.field-0-is))
