use Rattle.protocol_laws.proofs.HistoryLaws.{run_is_legal}
use Rattle.protocol_laws.proofs.histories.legality.Goals as goal

-- src/histories.rt:20:1
pub returns : goal.returns
returns c = run_is_legal
