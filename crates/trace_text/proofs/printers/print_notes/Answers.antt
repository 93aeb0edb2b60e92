use Rattle.tcs_terms.proofs.Appending.{stops_behind}
use Rattle.trace_text.proofs.printers.print_notes.Goals as goal

pub returns-in_err-print_note-clause-err : goal.returns-in_err-print_note-clause-err
returns-in_err-print_note-clause-err c = stops_behind c.from_residual.result c.args.out.now.items _ c.loop-note.out.items c.print_note.new.out.items c.loop-note.invariant c.in_err-print_note.ensures.err
