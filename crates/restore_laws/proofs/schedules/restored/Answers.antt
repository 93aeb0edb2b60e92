use Rattle.restore_laws.proofs.Restores.{restores}
use Rattle.restore_laws.proofs.schedules.restored.Goals as goal

-- src/schedules.rt:17:1
pub returns : goal.returns
returns c = restores
