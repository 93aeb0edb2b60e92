use Rattle.protocol_laws.proofs.PromisesOfRun.{run_keeps_promises}
use Rattle.protocol_laws.proofs.promises.promises_kept.Goals as goal

-- src/promises.rt:15:1
pub returns : goal.returns
returns c = run_keeps_promises
