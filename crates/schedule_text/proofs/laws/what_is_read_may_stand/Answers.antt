use Rattle.schedule_text.proofs.BytesRead.{events_stand as lemma}
use Rattle.schedule_text.proofs.laws.what_is_read_may_stand.Goals as goal

pub returns : goal.returns
returns c = lemma
