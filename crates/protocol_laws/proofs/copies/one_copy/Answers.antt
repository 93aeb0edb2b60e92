use Rattle.protocol_laws.proofs.CopyLaws.{run_is_one_copy}
use Rattle.protocol_laws.proofs.copies.one_copy.Goals as goal

-- src/copies.rt:22:1
pub returns : goal.returns
returns c = run_is_one_copy
