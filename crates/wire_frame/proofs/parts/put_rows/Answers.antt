use Rattle.std.proofs.Common.{arith}
use Rattle.wire_frame.proofs.Counts.{few_rows}
use Rattle.wire_frame.proofs.parts.put_rows.Goals as goal

pub overflow_cast-list : goal.overflow_cast-list
overflow_cast-list c = rw c.list-list.ensures.list (omega (arith, few_rows c.args.rows.now c.list-list.ensures.rows))
