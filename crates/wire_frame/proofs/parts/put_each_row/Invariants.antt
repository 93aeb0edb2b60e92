use Rattle.std.proofs.Common.{◌≡◌, ◌++◌, take}
use Rattle.std.specs.List.{flat_map}
use Rattle.wire_frame.specs.Spelling.{spell_row}
use Rattle.wire_frame.proofs.parts.put_each_row.Given as goal

abbrev pub invariant-loop-row : goal.invariant-loop-row
invariant-loop-row l = l.out.items ≡ l.initial.out.items ++ flat_map spell_row (take l.row-index l.rows)
