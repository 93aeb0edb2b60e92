use Rattle.schedule_text.proofs.ShortLines.{lines_fit as lemma}
use Rattle.schedule_text.proofs.laws.every_line_is_one.Goals as goal

pub returns : goal.returns
returns c = lemma
