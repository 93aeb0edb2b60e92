use Rattle.std.proofs.Common.{sym, arith}
use Rattle.text_words.proofs.HexLaws.{few_digits}
use Rattle.text_words.proofs.hex_words.value_in.Goals as goal

pub of-requires-in-Some : goal.of-requires-in-Some
of-requires-in-Some c = rw c.deref.ensures.value (few_digits c.args.word.now c.in-Some.bytes.items (sym (rw c.in-Some.is at c.in_ok-bytes.ensures)) (omega arith))
