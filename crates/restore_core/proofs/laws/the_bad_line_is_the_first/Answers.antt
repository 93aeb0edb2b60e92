use Rattle.restore_core.proofs.BadLines.{first_bad as lemma}
use Rattle.restore_core.proofs.laws.the_bad_line_is_the_first.Goals as goal

pub returns : goal.returns
returns c = lemma
