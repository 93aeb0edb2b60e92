use Rattle.std.proofs.Common.{sym}
use Rattle.quorum_config.proofs.NumberLists.{one_word, first_word}
use Rattle.quorum_config.proofs.parts.cut.Goals as goal

pub returns-in-None-clause-words : goal.returns-in-None-clause-words
returns-in-None-clause-words c = one_word c.args.text.now (sym c.in-None.ensures)

pub returns-in-Some-clause-words : goal.returns-in-Some-clause-words
returns-in-Some-clause-words c = first_word c.args.text.now c.in-Some.place (sym c.in-Some.ensures)
