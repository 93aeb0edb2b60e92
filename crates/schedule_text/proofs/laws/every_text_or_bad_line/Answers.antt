use Rattle.schedule_text.proofs.EveryText.{text_or_bad as lemma}
use Rattle.schedule_text.proofs.laws.every_text_or_bad_line.Goals as goal

pub returns : goal.returns
returns c = lemma
