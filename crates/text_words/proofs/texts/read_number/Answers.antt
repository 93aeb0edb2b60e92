use Rattle.std.proofs.Common.{sym, ◌∙◌}
use Rattle.text_words.proofs.NumberLaws.{numeral_is_text, parsed}
use Rattle.text_words.proofs.texts.read_number.Goals as goal

pub returns-in_default : goal.returns-in_default
returns-in_default c = absurd (c.in_default.ensures.cases.0 (numeral_is_text c.args.word.now (sym c.if-not-is_numeral.ensures)))

pub returns : goal.returns
returns c =
    c.ok.ensures.value ∙ parsed c.args.word.now c.parse.result (sym c.if-not-is_numeral.ensures) (rw c.in-Ok.ensures.cases.0 at c.parse.ensures.value.0)
