use Rattle.protocol_laws.proofs.HistoryLaws.{run_keeps_time}
use Rattle.protocol_laws.proofs.histories.real_time.Goals as goal

-- src/histories.rt:26:1
pub returns : goal.returns
returns c = run_keeps_time
