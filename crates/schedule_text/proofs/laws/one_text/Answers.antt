use Rattle.schedule_text.proofs.FirstBadLines.{one_text as lemma}
use Rattle.schedule_text.proofs.laws.one_text.Goals as goal

pub returns : goal.returns
returns c = lemma
