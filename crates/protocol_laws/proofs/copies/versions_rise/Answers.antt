use Rattle.protocol_laws.proofs.CopyLaws.{run_versions_rise}
use Rattle.protocol_laws.proofs.copies.versions_rise.Goals as goal

-- src/copies.rt:15:1
pub returns : goal.returns
returns c = run_versions_rise
