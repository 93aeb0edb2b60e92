use Rattle.protocol_laws.proofs.HistoryLaws.{run_is_correct}
use Rattle.protocol_laws.proofs.histories.correctness.Goals as goal

-- src/histories.rt:33:1
pub returns : goal.returns
returns c = run_is_correct
