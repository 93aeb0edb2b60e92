use Rattle.state_transfer.specs.Arriving.{kept_as}
use Rattle.state_transfer.proofs.Taking.{fits_once_taken}
use Rattle.state_transfer.proofs.choices.gather.Goals as goal

pub with-requires : goal.with-requires
with-requires c =
    rw c.in_ok-gathering_for.ensures
    (fits_once_taken c.args.gathering c.args.config.now c.args.piece.pieces (kept_as c.args.piece) c.requires.taken c.requires.from_one c.requires.one_of c.knows_rows.ensures)
