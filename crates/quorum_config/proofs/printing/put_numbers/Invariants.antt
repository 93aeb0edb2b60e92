use Rattle.std.proofs.Common.{◌≡◌, ◌++◌, take}
use Rattle.schedule_text.specs.Text.{numbers_text}
use Rattle.quorum_config.proofs.printing.put_numbers.Given as goal

abbrev pub invariant-numbers : goal.invariant-numbers
invariant-numbers l = l.out.items ≡ l.initial.out.items ++ numbers_text (take l.number-index l.numbers)
