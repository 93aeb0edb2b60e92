use Rattle.protocol_laws.proofs.HistoryLaws.{run_agrees}
use Rattle.protocol_laws.proofs.histories.agreement.Goals as goal

-- src/histories.rt:14:1
pub returns : goal.returns
returns c = run_agrees
