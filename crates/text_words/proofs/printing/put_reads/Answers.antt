use Rattle.tcs_terms.proofs.Appending.{stops_behind}
use Rattle.text_words.proofs.printing.put_reads.Goals as goal

pub returns-in_err-put_read-clause-err : goal.returns-in_err-put_read-clause-err
returns-in_err-put_read-clause-err c = stops_behind c.from_residual.result c.args.out.now.items _ c.loop-read.out.items c.put_read.new.out.items c.loop-read.invariant c.in_err-put_read.ensures.err
