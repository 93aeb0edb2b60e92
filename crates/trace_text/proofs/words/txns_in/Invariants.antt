use Rattle.std.proofs.Common.{◌≡◌, length}
use Rattle.text_words.specs.Words.{words_of}
use Rattle.trace_text.specs.Words.{each_txn}
use Rattle.trace_text.proofs.WordLists.{before}
use Rattle.trace_text.proofs.words.txns_in.Given as goal

abbrev pub invariant-words : goal.invariant-words
invariant-words l = each_txn (words_of l.fn.text) ≡ before l.txns.items (each_txn (words_of l.left))

abbrev pub decreases-words : goal.decreases-words
decreases-words l = length l.left
