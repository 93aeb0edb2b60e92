use Rattle.tcs_terms.proofs.Appending.{err_behind}
use Rattle.trace_text.proofs.printers.print_message.Goals as goal

pub returns-clause-err : goal.returns-clause-err
returns-clause-err c =
    let all = c.put_byte-2.new.out.items in
    err_behind c.put_byte-2.result c.args.out.now.items _ c.put_ends.new.out.items all c.in_ok-put_ends.ensures.ok
    (err_behind c.put_byte-2.result c.put_ends.new.out.items _ c.put_byte.new.out.items all c.in_ok-put_byte.ensures.ok
    (err_behind c.put_byte-2.result c.put_byte.new.out.items _ c.put_frame.new.out.items all c.in_ok-put_frame.ensures.ok c.put_byte-2.ensures.err))
