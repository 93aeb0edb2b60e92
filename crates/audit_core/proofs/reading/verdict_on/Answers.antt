-- Line by line, up to the end.
use Rattle.std.proofs.Common.{Some, arith}
use Rattle.std.proofs.lemmas.Result.{err_from_is_err_and}
use Rattle.audit_core.proofs.Stepping.{fresh_counted, fresh_goes, goes_next, ends_stopped, ends_judged}
use Rattle.audit_core.proofs.reading.verdict_on.Goals as goal

pub lines-init : goal.lines-init
lines-init g c = record {
  counted = fresh_counted _ c.in_ok-reading.ensures;
  goes = λ bytes told. fresh_goes _ bytes _ c.in_ok-reading.ensures told;
  count = omega arith;
}

pub returns-in_err-reading-clause-ends : goal.returns-in_err-reading-clause-ends
returns-in_err-reading-clause-ends g c = λ bytes told.
    let p = err_from_is_err_and c.from_residual.result c.from_residual.ensures.1 in
    rw (p.1, p.2) tt

pub returns-in_err-verdict-clause-ends : goal.returns-in_err-verdict-clause-ends
returns-in_err-verdict-clause-ends g c = λ bytes told.
    let p = err_from_is_err_and c.from_residual-in_err-verdict.result c.from_residual-in_err-verdict.ensures.1 in
    let so_far = c.lines.invariant.goes bytes told in
    rw (p.1, p.2) (ends_stopped bytes _ c.lines.reading _ (Some bytes) _ so_far (c.in_err-verdict.ensures.goes so_far.rest so_far.told))

pub returns-in-Some-clause-ends : goal.returns-in-Some-clause-ends
returns-in-Some-clause-ends g c = λ bytes told.
    let so_far = c.lines.invariant.goes bytes told in
    ends_judged bytes _ c.lines.reading _ _ _ so_far (rw c.in-Some.is at (c.in_ok-verdict.ensures.goes so_far.rest so_far.told))

pub lines-preserved : goal.lines-preserved
lines-preserved g c = record {
  counted = c.in_ok-verdict.ensures.counted.0;
  goes = λ bytes told.
      let so_far = c.lines.invariant.goes bytes told in
      goes_next _ _ _ _ _ so_far (rw c.in_default.is at (c.in_ok-verdict.ensures.goes so_far.rest so_far.told));
  count = omega (arith, c.lines.invariant.count, c.next.ensures.count);
}
