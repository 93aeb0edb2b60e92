use Rattle.std.proofs.Common.{sym}
use Rattle.text_words.proofs.WordLaws.{takes_first, takes_last}
use Rattle.text_words.proofs.cursor.Words.take.Goals as goal

pub returns-in-Some : goal.returns-in-Some
returns-in-Some c = rw (← c.self.view_is) (takes_first c.self.inside.done c.self.inside.text.now c.in-Some.place c.if-self.false (sym c.in-Some.ensures))

pub returns-in-None : goal.returns-in-None
returns-in-None c = rw (← c.self.view_is) (takes_last c.self.inside.done c.self.inside.text.now c.if-self.false (sym c.in-None.ensures))
