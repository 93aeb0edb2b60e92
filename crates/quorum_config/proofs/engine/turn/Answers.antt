use Rattle.std.proofs.Common.{Err, refl, ap, arith}
use Rattle.std.proofs.lemmas.Result.{err_from_is_err_and}
use Rattle.schedule_text.specs.declared.lines.Got.TheVariants.{Whole, Cut, Long, Nothing}
use Rattle.quorum_config.proofs.Turning.{read_stops, bad_stops, memory_stops, write_stops, goes_on, not_ended}
use Rattle.quorum_config.proofs.engine.turn.Goals as goal

pub returns-in_err-got-clause-stopped : goal.returns-in_err-got-clause-stopped
returns-in_err-got-clause-stopped g c = λ bytes before at.
    let p = err_from_is_err_and c.from_residual.result c.from_residual.ensures.1 in
    rw (p.1, p.2) (read_stops bytes before _ _ _ _ _ at c.in_err-got.field-0.0 _ _ (c.in_err-got.ensures.kept at.rest at.told) (λ same. c.in_err-got.ensures.part (ap Err same)) c.next_line.ensures.most)

pub returns-in-Cut-clause-stopped : goal.returns-in-Cut-clause-stopped
returns-in-Cut-clause-stopped g c = λ bytes before at.
    bad_stops bytes before _ _ _ _ _ at Cut _ _ _ (rw c.in-Cut.is at c.in_ok-got.ensures.line) (rw c.in-Cut.is at (c.in_ok-got.ensures.bytes at.rest at.told)) (rw c.in-Cut.is at c.in_ok-got.ensures.ahead)
    refl (not_ended Cut _ c.requires.open)

pub returns-in-Long-clause-stopped : goal.returns-in-Long-clause-stopped
returns-in-Long-clause-stopped g c = λ bytes before at.
    bad_stops bytes before _ _ _ _ _ at Long _ _ _ (rw c.in-Long.is at c.in_ok-got.ensures.line) (rw c.in-Long.is at (c.in_ok-got.ensures.bytes at.rest at.told)) (rw c.in-Long.is at c.in_ok-got.ensures.ahead)
    refl (not_ended Long _ c.requires.open)

pub returns-in-Nothing-clause-stopped : goal.returns-in-Nothing-clause-stopped
returns-in-Nothing-clause-stopped g c = λ bytes before at.
    bad_stops bytes before _ _ _ _ _ at Nothing _ _ _ (rw c.in-Nothing.is at c.in_ok-got.ensures.line) (rw c.in-Nothing.is at (c.in_ok-got.ensures.bytes at.rest at.told)) (rw c.in-Nothing.is at c.in_ok-got.ensures.ahead)
    refl (not_ended Nothing _ c.requires.open)

pub returns-in_err-fits-clause-stopped : goal.returns-in_err-fits-clause-stopped
returns-in_err-fits-clause-stopped g c = λ bytes before at.
    let p = err_from_is_err_and c.from_residual-in_err-fits.result c.from_residual-in_err-fits.ensures.1 in
    rw (p.1, p.2) (memory_stops bytes before _ _ _ _ _ at Whole _ _ _ (rw c.in-Whole.is at c.in_ok-got.ensures.line) (rw c.in-Whole.is at (c.in_ok-got.ensures.bytes at.rest at.told)) (rw c.in-Whole.is at c.in_ok-got.ensures.ahead))

pub returns-then-not-fits-clause-stopped : goal.returns-then-not-fits-clause-stopped
returns-then-not-fits-clause-stopped g c = λ bytes before at.
    bad_stops bytes before _ _ _ _ _ at Whole _ _ _ (rw c.in-Whole.is at c.in_ok-got.ensures.line) (rw c.in-Whole.is at (c.in_ok-got.ensures.bytes at.rest at.told)) (rw c.in-Whole.is at c.in_ok-got.ensures.ahead)
    (rw (c.if-not-fits.true, c.deref.ensures.value) at c.in_ok-fits.ensures) (not_ended Whole _ c.requires.open)

pub returns-in_err-write_all-clause-stopped : goal.returns-in_err-write_all-clause-stopped
returns-in_err-write_all-clause-stopped g c = λ bytes before at.
    let p = err_from_is_err_and c.from_residual-in_err-write_all.result c.from_residual-in_err-write_all.ensures.1 in
    rw (p.1, p.2)
    (write_stops bytes before _ _ _ _ _ at _ _ _ (rw c.in-Whole.is at c.in_ok-got.ensures.line) (rw c.in-Whole.is at (c.in_ok-got.ensures.bytes at.rest at.told)) (rw c.in-Whole.is at c.in_ok-got.ensures.ahead)
    _ _ (rw (c.if-not-fits.false, c.deref.ensures.value) at c.in_ok-fits.ensures) _ _ (rw c.deref-2.ensures.value at c.in_err-write_all.ensures.front))

pub returns-clause-goes : goal.returns-clause-goes
returns-clause-goes g c = λ bytes before at.
    goes_on bytes before _ _ _ _ _ at _ _ _ (rw c.in-Whole.is at c.in_ok-got.ensures.line) (rw c.in-Whole.is at (c.in_ok-got.ensures.bytes at.rest at.told)) (rw c.in-Whole.is at c.in_ok-got.ensures.ahead)
    _ _ (rw (c.if-not-fits.false, c.deref.ensures.value) at c.in_ok-fits.ensures) _ (rw c.deref-2.ensures.value at c.in_ok-write_all.ensures.whole)
