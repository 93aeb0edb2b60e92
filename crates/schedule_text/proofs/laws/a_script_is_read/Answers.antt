use Rattle.schedule_text.proofs.ScriptSpellings.{script_read as lemma}
use Rattle.schedule_text.proofs.laws.a_script_is_read.Goals as goal

pub returns : goal.returns
returns c = lemma
