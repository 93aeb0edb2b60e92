use Rattle.std.proofs.Common.{sym, ◌∙◌}
use Rattle.tcs_terms.proofs.RowLaws.{passed_at}
use Rattle.tcs_terms.proofs.row_faults.rows_fault.Goals as goal

pub loop-i-preserved : goal.loop-i-preserved
loop-i-preserved c =
    let new = rw c.txn_of.ensures at (sym c.in_ok-is_new.ensures.new ∙ c.if-not-branch.false) in
    let kept = rw c.txn_of.ensures at c.in_ok-is_new.ensures.kept in
    sym (passed_at c.args.list.now c.loop-i.i c.loop-i.last c.slot_of-slot.result c.loop-i.seen.keys c.is_new.new.seen.keys c.index-list-i.result
    c.loop-i-test.true c.index-list-i.is c.slot_of-slot.ensures c.if-last-slot.false c.if-slot-gt-MAX_SLOT.false new kept)
    ∙ c.loop-i.invariant
