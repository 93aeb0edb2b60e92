-- Reading stopped, writing stopped, or the verdict was written.
use Rattle.std.proofs.Common.{Some, Err, ap, inl}
use Rattle.std.proofs.lemmas.Result.{err_from_is_err_and}
use Rattle.audit_core.proofs.Ending.{stopped_reading, tells_reading, stopped_writing, tells_writing}
use Rattle.audit_core.proofs.auditing.audit.Goals as goal

pub returns-in_err-verdict-clause-stopped : goal.returns-in_err-verdict-clause-stopped
returns-in_err-verdict-clause-stopped g c = λ bytes before told holds.
    let p = err_from_is_err_and c.from_residual.result c.from_residual.ensures.1 in
    rw (p.1, p.2) (stopped_reading bytes before _ _ _ (c.in_err-verdict.ensures.ends bytes told) (λ e. c.in_err-verdict.ensures.reads (ap Err e)) holds)

pub returns-in_err-verdict-clause-complete : goal.returns-in_err-verdict-clause-complete
returns-in_err-verdict-clause-complete g c = λ bytes told calm quiet.
    let p = err_from_is_err_and c.from_residual.result c.from_residual.ensures.1 in
    rw (p.1, p.2) (tells_reading bytes (Some bytes) _ _ _ (c.in_err-verdict.ensures.ends bytes told) (λ e. c.in_err-verdict.ensures.fault (ap Err e))
    (λ e. c.in_err-verdict.ensures.reads (ap Err e)) calm)

pub returns-in_err-put_verdict-clause-stopped : goal.returns-in_err-put_verdict-clause-stopped
returns-in_err-put_verdict-clause-stopped g c = λ bytes before told holds.
    let p = err_from_is_err_and c.from_residual-in_err-put_verdict.result c.from_residual-in_err-put_verdict.ensures.1 in
    rw (p.1, p.2) (inl holds)

pub returns-in_err-put_verdict-clause-complete : goal.returns-in_err-put_verdict-clause-complete
returns-in_err-put_verdict-clause-complete g c = λ bytes told calm quiet.
    let p = err_from_is_err_and c.from_residual-in_err-put_verdict.result c.from_residual-in_err-put_verdict.ensures.1 in
    rw (p.1, p.2) tt

pub returns-in_err-write_all-clause-stopped : goal.returns-in_err-write_all-clause-stopped
returns-in_err-write_all-clause-stopped g c = λ bytes before told holds.
    let p = err_from_is_err_and c.from_residual-in_err-write_all.result c.from_residual-in_err-write_all.ensures.1 in
    rw (p.1, p.2) (stopped_writing bytes before _ _ _ _ (c.in_ok-verdict.ensures.ends bytes told)
    (rw (c.deref.ensures.value, c.in_ok-put_verdict.ensures, c.new-line.ensures.items) at (c.in_err-write_all.ensures.front before holds)))

pub returns-in_err-write_all-clause-complete : goal.returns-in_err-write_all-clause-complete
returns-in_err-write_all-clause-complete g c = λ bytes told calm quiet.
    let p = err_from_is_err_and c.from_residual-in_err-write_all.result c.from_residual-in_err-write_all.ensures.1 in
    rw (p.1, p.2) (tells_writing bytes _ _ _ (λ e. c.in_err-write_all.ensures.failed (ap Err e)) quiet)

pub returns-clause-whole : goal.returns-clause-whole
returns-clause-whole g c = λ bytes before told holds. record {
  judged = (c.in_ok-verdict.ensures.ends bytes told).0;
  at_end = (c.in_ok-verdict.ensures.ends bytes told).1;
  written = rw (c.deref.ensures.value, c.in_ok-put_verdict.ensures, c.new-line.ensures.items) at (c.in_ok-write_all.ensures.whole before holds);
}

pub returns-clause-complete : goal.returns-clause-complete
returns-clause-complete g c = λ bytes told calm quiet. (c.in_ok-verdict.ensures.ends bytes told).0
