use Rattle.tcs_terms.proofs.Appending.{err_behind}
use Rattle.trace_text.proofs.printers.put_frame.Goals as goal

pub returns-clause-err : goal.returns-clause-err
returns-clause-err c =
    let all = c.put_hex.new.out.items in
    err_behind c.put_hex.result c.args.out.now.items _ c.print_kind.new.out.items all c.in_ok-print_kind.ensures.ok
    (err_behind c.put_hex.result c.print_kind.new.out.items _ c.put_byte.new.out.items all c.in_ok-put_byte.ensures.ok c.put_hex.ensures.err)
