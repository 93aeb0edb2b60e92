use Rattle.schedule_text.proofs.ScheduleSpellings.{refused_continues_none as lemma}
use Rattle.schedule_text.proofs.laws.what_is_refused_begins_no_schedule.Goals as goal

pub returns : goal.returns
returns c = lemma
