use Rattle.std.proofs.Common.{refl}
use Rattle.tcs_terms.proofs.NameLaws.{no_fault_of_a_name}
use Rattle.text_words.specs.PayloadWords.{name_in}
use Rattle.text_words.proofs.word_readers.name_in.Goals as goal

pub returns-in-Ok : goal.returns-in-Ok
unfolding name_in
returns-in-Ok c = rw (no_fault_of_a_name c.args.word.now c.in-Ok.ensures.ok, c.in-Ok.ensures.value) refl
