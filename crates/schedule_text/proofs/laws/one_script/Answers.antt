use Rattle.schedule_text.proofs.ScriptSpellings.{one_script as lemma}
use Rattle.schedule_text.proofs.laws.one_script.Goals as goal

pub returns : goal.returns
returns c = lemma
