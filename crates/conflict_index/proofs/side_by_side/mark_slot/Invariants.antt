use Rattle.std.proofs.Common.{◌≡◌, ◌++◌, take, drop}
use Rattle.tcs_laws.specs.Rows.{marked}
use Rattle.conflict_index.proofs.side_by_side.mark_slot.Given as goal

-- the rows before the index are marked
abbrev pub invariant-loop-row : goal.invariant-loop-row
invariant-loop-row l =
    l.rows ≡ marked (take l.row-index l.initial.rows) l.slot l.mark ++ drop l.row-index l.initial.rows
