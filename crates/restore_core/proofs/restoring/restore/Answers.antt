use Rattle.std.proofs.Common.{ap, Err}
use Rattle.std.proofs.lemmas.Result.{err_from_is_err_and}
use Rattle.restore_core.proofs.Ending.{put_back, stopped_reading, stopped_writing}
use Rattle.restore_core.proofs.restoring.restore.Goals as goal

pub returns-in_err-kept-clause-stopped : goal.returns-in_err-kept-clause-stopped
returns-in_err-kept-clause-stopped g c = λ bytes before told holds.
    let p = err_from_is_err_and c.from_residual.result c.from_residual.ensures.1 in
    rw (p.1, p.2) (stopped_reading bytes before _ _ c.in_err-kept.field-0.0 (λ line e. c.in_err-kept.ensures.bad bytes told line (ap Err e))
    (λ e. c.in_err-kept.ensures.reads (ap Err e)) holds)

pub returns-in_err-write_all-clause-stopped : goal.returns-in_err-write_all-clause-stopped
returns-in_err-write_all-clause-stopped g c = λ bytes before told holds.
    let file = c.in_ok-kept.ensures.file bytes told in
    let p = err_from_is_err_and c.from_residual-in_err-write_all.result c.from_residual-in_err-write_all.ensures.1 in
    rw (p.1, p.2) (stopped_writing bytes before _ _ c.in_ok-kept.kept.items c.print_schedule.new.out.items c.in_err-write_all.field-0.0
    (put_back bytes _ _ _ file.0 file.1 c.in_ok-kept.ensures.kept (rw (c.deref.ensures.value, c.new-text.ensures.items) at c.in_ok-print_schedule.ensures))
    (rw c.deref-2.ensures.value at (c.in_err-write_all.ensures.front before holds)))

pub returns-clause-whole : goal.returns-clause-whole
returns-clause-whole g c = λ bytes before told holds.
    let file = c.in_ok-kept.ensures.file bytes told in
    record {
      kept = c.in_ok-kept.kept.items;
      text = c.print_schedule.new.out.items;
      put_back = put_back bytes _ _ _ file.0 file.1 c.in_ok-kept.ensures.kept (rw (c.deref.ensures.value, c.new-text.ensures.items) at c.in_ok-print_schedule.ensures);
      written = rw c.deref-2.ensures.value at (c.in_ok-write_all.ensures.whole before holds);
    }
