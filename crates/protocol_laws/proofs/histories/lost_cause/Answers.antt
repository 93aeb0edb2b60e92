use Rattle.protocol_laws.proofs.HistoryLaws.{run_names_losses}
use Rattle.protocol_laws.proofs.histories.lost_cause.Goals as goal

-- src/histories.rt:44:1
pub returns : goal.returns
returns c = run_names_losses
