use Rattle.schedule_text.proofs.FirstBadLines.{no_text_is_bad as lemma}
use Rattle.schedule_text.proofs.laws.no_text_has_a_bad_line.Goals as goal

pub returns : goal.returns
returns c = lemma
