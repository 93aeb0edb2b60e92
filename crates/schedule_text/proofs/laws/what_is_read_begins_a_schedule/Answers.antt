use Rattle.schedule_text.proofs.ScheduleReadings.{begins_a_schedule as lemma}
use Rattle.schedule_text.proofs.laws.what_is_read_begins_a_schedule.Goals as goal

pub returns : goal.returns
returns c = lemma
