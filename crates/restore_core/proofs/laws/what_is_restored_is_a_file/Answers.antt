use Rattle.restore_core.proofs.Files.{answers_file as lemma}
use Rattle.restore_core.proofs.laws.what_is_restored_is_a_file.Goals as goal

pub returns : goal.returns
returns c = lemma
