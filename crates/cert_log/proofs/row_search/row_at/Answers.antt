-- The row of a slot stands at its place, or no row has the slot.
use Rattle.std.proofs.Common.{ap, sym, ◌∙◌, Some}
use Rattle.tcs_terms.specs.declared.logs.Row.{Row}
use Rattle.cert_log.proofs.Splitting.{some_at_stand, none_at_split}
use Rattle.cert_log.proofs.row_search.row_at.Goals as goal

pub returns-in-Ok : goal.returns-in-Ok
returns-in-Ok c =
    ap (λ (r : Row). Some r) c.index-rows-at.is
    ∙ sym (some_at_stand c.args.rows.now c.args.slot c.in-Ok.at c.index-rows-at.result c.requires c.in-Ok.ensures)

pub returns-in-Err : goal.returns-in-Err
returns-in-Err c = sym (none_at_split c.args.rows.now c.args.slot c.in-Err.field-0 c.in-Err.ensures)
