-- The last row has the last slot.
use Rattle.std.proofs.Common.{None, ap, sym, ◌∙◌}
use Rattle.tcs_terms.specs.declared.logs.Row.{Row}
use Rattle.protocol.specs.Log.{slot_or_zero}
use Rattle.cert_log.proofs.Ascending.{last_found}
use Rattle.cert_log.proofs.row_search.last_slot.Goals as goal

pub returns-in-Some : goal.returns-in-Some
returns-in-Some c =
    ap (λ (r : Row). r.entry.slot) c.row.view_is
    ∙ sym (ap slot_or_zero (last_found None c.args.rows.now c.in-Some.row.now (sym c.in-Some.ensures.value)))
