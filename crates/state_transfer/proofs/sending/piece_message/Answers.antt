use Rattle.state_transfer.proofs.LogParts.{piece_of_rows}
use Rattle.state_transfer.proofs.sending.piece_message.Goals as goal

pub copied-requires : goal.copied-requires
copied-requires c = rw c.piece.ensures (piece_of_rows c.args.rows.now c.args.number c.requires)
