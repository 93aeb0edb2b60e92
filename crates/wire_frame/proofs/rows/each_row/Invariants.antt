use Rattle.std.proofs.Common.{◌≡◌, ◌-◌, []}
use Rattle.wire_frame.specs.Reading.{each_at}
use Rattle.wire_frame.specs.Parts.{row_at, with_row}
use Rattle.wire_frame.proofs.Loop.{with_front}
use Rattle.wire_frame.proofs.rows.each_row.Given as goal

abbrev pub invariant-loop : goal.invariant-loop
invariant-loop l = with_front l.rows.items (each_at row_at with_row (l.count - l.counter) (l.last, l.seen.keys) l.rest) ≡ each_at row_at with_row l.count (0, []) l.bytes
