use Rattle.std.proofs.Common.{arith}
use Rattle.state_transfer.proofs.LogParts.{rows_are_few}
use Rattle.state_transfer.proofs.pieces.piece_count.Goals as goal

pub overflow_cast-result : goal.overflow_cast-result
overflow_cast-result c = omega (arith, rows_are_few c.args.rows.now c.requires)
