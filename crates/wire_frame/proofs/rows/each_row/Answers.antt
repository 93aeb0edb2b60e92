use Rattle.std.proofs.Common.{ap}
use Rattle.std.proofs.lemmas.Result.{err_from_is_err_and}
use Rattle.wire_frame.specs.Parts.{row_at, with_row}
use Rattle.tcs_terms.specs.declared.logs.Row.{Row}
use Rattle.wire_frame.proofs.Loop.{ends, is_done}
use Rattle.wire_frame.proofs.SeenRows.{row_goes_on}
use Rattle.wire_frame.proofs.rows.each_row.Goals as goal

pub returns-in_err-row : goal.returns-in_err-row
returns-in_err-row c =
    let p = err_from_is_err_and c.from_residual-in_err-row.result c.from_residual-in_err-row.ensures.1 in
    rw (p.1, p.2) (ends row_at with_row c.in_err-row.field-0.0 c.loop.rows.items c.args.count c.loop.counter (c.loop.last, c.loop.seen.keys) c.loop.rest.now _ c.loop-test.true c.in_err-row.ensures.read c.loop.invariant)

pub loop-preserved : goal.loop-preserved
loop-preserved c =
    let slot = ap (λ (r : Row). r.entry.slot) c.row.view_is in
    rw (c.in_ok-push.ensures.items, slot)
    (row_goes_on c.loop.rows.items c.args.count c.loop.counter c.loop.last c.loop.seen.keys c.row_of.new.seen.keys c.loop.rest.now c.in_ok-row.row c.in_ok-row.after.now _ c.loop-test.true c.in_ok-row.ensures.read c.in_ok-row.ensures.kept c.loop.invariant)

pub returns : goal.returns
returns c = is_done row_at with_row c.loop.rows.items c.args.count c.loop.counter (c.loop.last, c.loop.seen.keys) c.loop.rest.now _ c.loop-test.false c.loop.invariant
