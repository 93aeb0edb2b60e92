use Rattle.std.proofs.Common.{Err, refl, ap, arith}
use Rattle.std.proofs.lemmas.Result.{err_from_is_err_and}
use Rattle.schedule_text.specs.declared.lines.Got.TheVariants.{Whole, Cut, Long, Nothing}
use Rattle.quorum_config.proofs.Turning.{read_stops, bad_stops, memory_stops, tail_stops, finishes, ended_refuses, other_than_nothing}
use Rattle.quorum_config.proofs.engine.finish.Goals as goal

pub returns-in_err-got-clause-stopped : goal.returns-in_err-got-clause-stopped
returns-in_err-got-clause-stopped g c = λ bytes before at.
    let p = err_from_is_err_and c.from_residual.result c.from_residual.ensures.1 in
    rw (p.1, p.2) (read_stops bytes before _ _ _ _ _ at c.in_err-got.field-0.0 _ _ (c.in_err-got.ensures.kept at.rest at.told) (λ same. c.in_err-got.ensures.part (ap Err same)) c.next_line.ensures.most)

pub returns-in-Whole-clause-stopped : goal.returns-in-Whole-clause-stopped
returns-in-Whole-clause-stopped g c = λ bytes before at.
    bad_stops bytes before _ _ _ _ _ at Whole _ _ _ (rw c.in-Whole.is at c.in_ok-got.ensures.line) (rw c.in-Whole.is at (c.in_ok-got.ensures.bytes at.rest at.told)) (rw c.in-Whole.is at c.in_ok-got.ensures.ahead)
    (ended_refuses _ _ c.requires.ended) (other_than_nothing Whole _ (λ e. absurd cc))

pub returns-in-Cut-clause-stopped : goal.returns-in-Cut-clause-stopped
returns-in-Cut-clause-stopped g c = λ bytes before at.
    bad_stops bytes before _ _ _ _ _ at Cut _ _ _ (rw c.in-Cut.is at c.in_ok-got.ensures.line) (rw c.in-Cut.is at (c.in_ok-got.ensures.bytes at.rest at.told)) (rw c.in-Cut.is at c.in_ok-got.ensures.ahead)
    refl (other_than_nothing Cut _ (λ e. absurd cc))

pub returns-in-Long-clause-stopped : goal.returns-in-Long-clause-stopped
returns-in-Long-clause-stopped g c = λ bytes before at.
    bad_stops bytes before _ _ _ _ _ at Long _ _ _ (rw c.in-Long.is at c.in_ok-got.ensures.line) (rw c.in-Long.is at (c.in_ok-got.ensures.bytes at.rest at.told)) (rw c.in-Long.is at c.in_ok-got.ensures.ahead)
    refl (other_than_nothing Long _ (λ e. absurd cc))

pub returns-in_err-put_end-clause-stopped : goal.returns-in_err-put_end-clause-stopped
returns-in_err-put_end-clause-stopped g c = λ bytes before at.
    let p = err_from_is_err_and c.from_residual-in_err-put_end.result c.from_residual-in_err-put_end.ensures.1 in
    rw (p.1, p.2) (memory_stops bytes before _ _ _ _ _ at Nothing _ _ _ (rw c.in-Nothing.is at c.in_ok-got.ensures.line) (rw c.in-Nothing.is at (c.in_ok-got.ensures.bytes at.rest at.told)) (rw c.in-Nothing.is at c.in_ok-got.ensures.ahead))

pub returns-in_err-write_all-clause-stopped : goal.returns-in_err-write_all-clause-stopped
returns-in_err-write_all-clause-stopped g c = λ bytes before at.
    let p = err_from_is_err_and c.from_residual-in_err-write_all.result c.from_residual-in_err-write_all.ensures.1 in
    rw (p.1, p.2)
    (tail_stops bytes before _ _ _ _ _ at _ _ _ (rw c.in-Nothing.is at c.in_ok-got.ensures.line) (rw c.in-Nothing.is at (c.in_ok-got.ensures.bytes at.rest at.told)) (rw c.in-Nothing.is at c.in_ok-got.ensures.ahead)
    c.requires.ended _ _ (rw (c.deref.ensures.value, c.in_ok-put_end.ensures) at c.in_err-write_all.ensures.front))

pub returns-clause-whole : goal.returns-clause-whole
returns-clause-whole g c = λ bytes before at.
    finishes bytes before _ _ _ _ _ at _ _ _ (rw c.in-Nothing.is at (c.in_ok-got.ensures.bytes at.rest at.told)) c.requires.ended _
    (rw (c.deref.ensures.value, c.in_ok-put_end.ensures) at c.in_ok-write_all.ensures.whole)
