use Rattle.protocol_laws.proofs.HistoryLaws.{run_names_clashes}
use Rattle.protocol_laws.proofs.histories.clash_cause.Goals as goal

-- src/histories.rt:39:1
pub returns : goal.returns
returns c = run_names_clashes
