use Rattle.std.proofs.Common.{◌∙◌}
use Rattle.text_words.proofs.PartLoops.{last_is}
use Rattle.text_words.proofs.reading.last_end.Goals as goal

pub returns-in-len1-up : goal.returns-in-len1-up
returns-in-len1-up c = c.bytes.ensures.bytes ∙ last_is (λ p. p.upto) c.args.ranges.now c.last-item.result c.in-len1-up.len_at_least c.last-item.is
