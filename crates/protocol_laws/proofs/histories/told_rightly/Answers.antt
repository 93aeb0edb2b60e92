use Rattle.protocol_laws.proofs.ToldAt.{run_tells_rightly}
use Rattle.protocol_laws.proofs.histories.told_rightly.Goals as goal

-- src/histories.rt:57:1
pub returns : goal.returns
returns c = run_tells_rightly
