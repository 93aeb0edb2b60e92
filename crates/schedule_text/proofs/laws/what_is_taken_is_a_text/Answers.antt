use Rattle.schedule_text.proofs.FirstBadLines.{taken_to_the_end as lemma}
use Rattle.schedule_text.proofs.laws.what_is_taken_is_a_text.Goals as goal

pub returns : goal.returns
returns c = lemma
