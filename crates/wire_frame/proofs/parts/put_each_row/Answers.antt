use Rattle.tcs_terms.proofs.Appending.{stops_behind}
use Rattle.wire_frame.proofs.parts.put_each_row.Goals as goal

pub returns-in_err-put_row-clause-err : goal.returns-in_err-put_row-clause-err
returns-in_err-put_row-clause-err c = stops_behind c.from_residual.result c.args.out.now.items _ c.loop-row.out.items c.put_row.new.out.items c.loop-row.invariant c.in_err-put_row.ensures.err
