use Rattle.std.proofs.Common.{◌+◌, sym, ap, ◌∙◌}
use Rattle.text_words.proofs.WordLaws.{count_left}
use Rattle.text_words.proofs.cursor.Words.left.Goals as goal

pub returns-else-self-clause-left : goal.returns-else-self-clause-left
returns-else-self-clause-left c =
    rw (← c.self.view_is) (ap (λ n. n + 1) c.spaces_in.ensures ∙ sym (count_left c.self.inside.done c.self.inside.text.now c.if-self.false))
