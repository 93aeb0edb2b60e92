use Rattle.protocol_laws.proofs.LossesOf.{run-losses}
use Rattle.protocol_laws.proofs.losses.losses_were_caused.Goals as goal

pub returns : goal.returns
returns c = run-losses
