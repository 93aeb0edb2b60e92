use Rattle.tcs_terms.proofs.Appending.{stops_behind}
use Rattle.text_words.proofs.printing.put_ranges.Goals as goal

pub returns-in_err-put_range-clause-err : goal.returns-in_err-put_range-clause-err
returns-in_err-put_range-clause-err c = stops_behind c.from_residual.result c.args.out.now.items _ c.loop-range.out.items c.put_range.new.out.items c.loop-range.invariant c.in_err-put_range.ensures.err
