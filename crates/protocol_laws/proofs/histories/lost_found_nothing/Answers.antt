use Rattle.protocol_laws.proofs.HistoryLaws.{run_found_nothing}
use Rattle.protocol_laws.proofs.histories.lost_found_nothing.Goals as goal

-- src/histories.rt:50:1
pub returns : goal.returns
returns c = run_found_nothing
