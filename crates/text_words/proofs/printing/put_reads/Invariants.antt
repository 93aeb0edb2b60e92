use Rattle.std.proofs.Common.{◌≡◌, ◌++◌, take}
use Rattle.std.specs.List.{flat_map}
use Rattle.text_words.specs.PayloadText.{read_text}
use Rattle.text_words.proofs.printing.put_reads.Given as goal

abbrev pub invariant-loop-read : goal.invariant-loop-read
invariant-loop-read l = l.out.items ≡ l.initial.out.items ++ flat_map read_text (take l.read-index l.reads)
