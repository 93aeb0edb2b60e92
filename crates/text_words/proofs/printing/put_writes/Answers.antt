use Rattle.tcs_terms.proofs.Appending.{stops_behind}
use Rattle.text_words.proofs.printing.put_writes.Goals as goal

pub returns-in_err-put_write-clause-err : goal.returns-in_err-put_write-clause-err
returns-in_err-put_write-clause-err c = stops_behind c.from_residual.result c.args.out.now.items _ c.loop-write.out.items c.put_write.new.out.items c.loop-write.invariant c.in_err-put_write.ensures.err
