use Rattle.tcs_terms.proofs.Appending.{stops_behind}
use Rattle.trace_text.proofs.printing.put_more.Goals as goal

pub returns-in_err-put_next-clause-err : goal.returns-in_err-put_next-clause-err
returns-in_err-put_next-clause-err c = stops_behind c.from_residual.result c.args.out.now.items _ c.loop-txn.out.items c.put_next.new.out.items c.loop-txn.invariant c.in_err-put_next.ensures.err
