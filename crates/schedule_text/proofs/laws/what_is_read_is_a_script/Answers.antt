use Rattle.schedule_text.proofs.ScriptReadings.{script_read_to_the_end as lemma}
use Rattle.schedule_text.proofs.laws.what_is_read_is_a_script.Goals as goal

pub returns : goal.returns
returns c = lemma
