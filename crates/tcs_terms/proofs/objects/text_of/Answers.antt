use Rattle.tcs_terms.proofs.NameLaws.{name_is_text}
use Rattle.tcs_terms.proofs.objects.text_of.Goals as goal

pub returns-in_default : goal.returns-in_default
returns-in_default c = absurd (c.in_default.ensures.cases.0 (name_is_text c.args.bytes.now c.requires))
