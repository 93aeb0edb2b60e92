use Rattle.schedule_text.proofs.FirstBadLines.{text_taken as lemma}
use Rattle.schedule_text.proofs.laws.a_text_is_taken.Goals as goal

pub returns : goal.returns
returns c = lemma
