use Rattle.text_words.proofs.WordLaws.{is_done}
use Rattle.text_words.proofs.cursor.Words.is_empty.Goals as goal

pub returns : goal.returns
returns c = rw (← c.self.view_is) (is_done c.self.inside.done c.self.inside.text.now)
