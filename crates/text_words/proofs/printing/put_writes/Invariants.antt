use Rattle.std.proofs.Common.{◌≡◌, ◌++◌, take}
use Rattle.std.specs.List.{flat_map}
use Rattle.text_words.specs.PayloadText.{write_text}
use Rattle.text_words.proofs.printing.put_writes.Given as goal

abbrev pub invariant-loop-write : goal.invariant-loop-write
invariant-loop-write l = l.out.items ≡ l.initial.out.items ++ flat_map write_text (take l.write-index l.writes)
