use Rattle.protocol_laws.proofs.StoredBelow.{run-stored_below}
use Rattle.protocol_laws.proofs.epochs.epochs_below_are_stored.Goals as goal

pub returns : goal.returns
returns c = run-stored_below
