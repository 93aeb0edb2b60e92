use Rattle.restore_core.proofs.Files.{file_answers as lemma}
use Rattle.restore_core.proofs.laws.a_file_is_restored.Goals as goal

pub returns : goal.returns
returns c = lemma
