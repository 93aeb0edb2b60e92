use Rattle.std.proofs.Common.{◌≡◌}
use Rattle.protocol.specs.Pieces.{rows_of}
use Rattle.state_transfer.proofs.kept_pieces.KeptPieces.into_rows.Given as goal

abbrev pub invariant-loop-piece : goal.invariant-loop-piece
invariant-loop-piece l = l.rows.items ≡ rows_of l.yielded
