use Rattle.schedule_text.proofs.ScheduleSpellings.{one_schedule as lemma}
use Rattle.schedule_text.proofs.laws.one_schedule.Goals as goal

pub returns : goal.returns
returns c = lemma
