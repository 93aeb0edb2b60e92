use Rattle.schedule_text.proofs.FirstBadLines.{one_first_bad as lemma}
use Rattle.schedule_text.proofs.laws.one_first_bad_line.Goals as goal

pub returns : goal.returns
returns c = lemma
