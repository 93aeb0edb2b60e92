use Rattle.std.proofs.Common.{arith}
use Rattle.std.proofs.lemmas.Result.{err_from_is_err_and}
use Rattle.quorum_config.proofs.Turning.{at_first, first_stops}
use Rattle.quorum_config.proofs.engine.run_lines.Goals as goal

pub lines-init : goal.lines-init
lines-init g c = record {
  stands = λ bytes before told holds. rw (c.in_ok-engine.ensures.lines, c.in_ok-engine.ensures.number, c.in_ok-engine.ensures.store) (at_first bytes before _ _ told holds);
  few = rw (c.in_ok-engine.ensures.number, c.in_ok-engine.ensures.store) (omega arith);
  read = omega arith;
  wrote = omega arith;
}

pub lines-preserved : goal.lines-preserved
lines-preserved g c = record {
  stands = λ bytes before told holds. c.in_ok-turn.ensures.goes bytes before (c.lines.invariant.stands bytes before told holds);
  few = c.in_ok-turn.ensures.few;
  read = omega (arith, c.lines.invariant.read, c.turn.ensures.read);
  wrote = omega (arith, c.lines.invariant.wrote, c.turn.ensures.wrote);
}

pub returns-in_err-engine-clause-stopped : goal.returns-in_err-engine-clause-stopped
returns-in_err-engine-clause-stopped g c = λ bytes before told holds.
    let p = err_from_is_err_and c.from_residual.result c.from_residual.ensures.1 in
    rw (p.1, p.2) (first_stops bytes before _ _ told holds)

pub returns-in_err-turn-clause-stopped : goal.returns-in_err-turn-clause-stopped
returns-in_err-turn-clause-stopped g c = λ bytes before told holds.
    let p = err_from_is_err_and c.from_residual-in_err-turn.result c.from_residual-in_err-turn.ensures.1 in
    rw (p.1, p.2) (c.in_err-turn.ensures.stopped bytes before (c.lines.invariant.stands bytes before told holds))

pub returns-clause-whole : goal.returns-clause-whole
returns-clause-whole g c = λ bytes before told holds. c.finish.ensures.whole bytes before (c.lines.invariant.stands bytes before told holds)

pub returns-clause-stopped : goal.returns-clause-stopped
returns-clause-stopped g c = λ bytes before told holds. c.finish.ensures.stopped bytes before (c.lines.invariant.stands bytes before told holds)
