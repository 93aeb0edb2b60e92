use Rattle.schedule_text.proofs.ScheduleReadings.{read_to_the_end as lemma}
use Rattle.schedule_text.proofs.laws.what_is_read_is_printed.Goals as goal

pub returns : goal.returns
returns c = lemma
