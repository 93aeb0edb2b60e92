-- One row more is marked.
use Rattle.std.proofs.Common.{get_or, ap, arith}
use Rattle.std.specs.Prelude.{◌==◌, if◌then◌else◌}
use Rattle.std.proofs.lemmas.List.Edits.{map_over_more}
use Rattle.tcs_terms.specs.declared.logs.Row.{Row}
use Rattle.tcs_laws.specs.Rows.{set_mark}
use Rattle.conflict_index.proofs.side_by_side.mark_slot.Goals as goal

pub loop-row-preserved : goal.loop-row-preserved
loop-row-preserved c =
    let f : Row → Row = λ r. if r.entry.slot == c.args.slot then set_mark c.args.mark r else r in
    let here : Row → Row = λ d. get_or c.loop-row.rows c.loop-row.row-index d in
    rw c.mark_at.ensures (map_over_more f c.args.rows.now c.loop-row.rows c.loop-row.row-index (here c.row-item.result)
    (omega arith) c.loop-row.invariant (ap here c.row-item.is))
