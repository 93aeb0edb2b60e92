use Rattle.schedule_text.proofs.BytesRead.{few_lines as lemma}
use Rattle.schedule_text.proofs.laws.few_lines_are_read.Goals as goal

pub returns : goal.returns
returns c = lemma
