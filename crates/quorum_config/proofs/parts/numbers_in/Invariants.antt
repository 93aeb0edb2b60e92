use Rattle.std.proofs.Common.{◌≡◌, length}
use Rattle.text_words.specs.Words.{words_of}
use Rattle.quorum_config.specs.Readings.{each_number}
use Rattle.quorum_config.proofs.NumberLists.{before}
use Rattle.quorum_config.proofs.parts.numbers_in.Given as goal

abbrev pub invariant-words : goal.invariant-words
invariant-words l = each_number (words_of l.fn.text) ≡ before l.numbers.items (each_number (words_of l.left))

abbrev pub decreases-words : goal.decreases-words
decreases-words l = length l.left
