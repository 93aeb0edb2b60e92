use Rattle.std.proofs.Common.{◌≡◌, ◌++◌, take, codes}
use Rattle.std.specs.List.{flat_map}
use Rattle.text_words.specs.Texts.{txn_text}
use Rattle.trace_text.proofs.printing.put_more.Given as goal

abbrev pub invariant-loop-txn : goal.invariant-loop-txn
invariant-loop-txn l = l.out.items ≡ l.initial.out.items ++ flat_map (λ txn. codes " " ++ txn_text txn) (take l.txn-index l.order)
