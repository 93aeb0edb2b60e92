use Rattle.schedule_text.proofs.ScheduleSpellings.{schedule_read as lemma}
use Rattle.schedule_text.proofs.laws.what_is_printed_is_read.Goals as goal

pub returns : goal.returns
returns c = lemma
