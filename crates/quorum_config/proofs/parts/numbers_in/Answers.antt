use Rattle.std.proofs.Common.{◌∷◌, [], Some, sym, ap, ◌∙◌}
use Rattle.text_words.specs.Words.{words_of}
use Rattle.quorum_config.specs.Readings.{each_number}
use Rattle.quorum_config.proofs.NumberLists.{before, before_none, one_more, last_one, none_of_words}
use Rattle.quorum_config.proofs.parts.numbers_in.Goals as goal

pub words-init : goal.words-init
words-init c = sym (rw c.clear.ensures.items (before_none (each_number (words_of c.args.text.now))))

pub words-preserved : goal.words-preserved
words-preserved c =
    c.words.invariant ∙ one_more c.words.left.now c.in-Some.word.now c.in-Some.more.now c.in-Some-number_of.number c.words.numbers.items c.in-Some.ensures.words (sym c.in-Some-number_of.ensures)
    ∙ ap (λ ns. before ns (each_number (words_of c.in-Some.more.now))) (sym c.in_ok-push-in-Some.ensures.items)

pub returns-in_default : goal.returns-in_default
returns-in_default c = c.words.invariant ∙ none_of_words c.words.left.now c.in-Some.word.now (words_of c.in-Some.more.now) c.words.numbers.items c.in-Some.ensures.words (sym c.in_default.ensures)

pub returns-in_default-number_of : goal.returns-in_default-number_of
returns-in_default-number_of c = c.words.invariant ∙ none_of_words c.words.left.now c.words.left.now [] c.words.numbers.items c.in-None.ensures.words (sym c.in_default-number_of.ensures)

pub returns-in-None : goal.returns-in-None
returns-in-None c =
    c.words.invariant ∙ last_one c.words.left.now c.in-Some-number_of-2.number c.words.numbers.items c.in-None.ensures.words (sym c.in-Some-number_of-2.ensures)
    ∙ ap Some (sym c.in_ok-push-in-None.ensures.items)
