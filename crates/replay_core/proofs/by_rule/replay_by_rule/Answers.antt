use Rattle.std.proofs.Common.{Err, ap, sym, ◌∙◌}
use Rattle.std.proofs.lemmas.Result.{err_from_is_err_and}
use Rattle.replay_core.specs.Trace.{tests_of}
use Rattle.replay_core.proofs.Heading.{ends_unbegun, ends_header, err_same}
use Rattle.replay_core.proofs.by_rule.replay_by_rule.Goals as goal

pub returns-in_err-reading-clause-stopped : goal.returns-in_err-reading-clause-stopped
returns-in_err-reading-clause-stopped g c = λ bytes before told holds.
    let p = err_from_is_err_and c.from_residual.result c.from_residual.ensures.1 in
    rw (p.1, p.2) (ends_unbegun bytes before _ _ told holds)

pub returns-in_err-setup-clause-stopped : goal.returns-in_err-setup-clause-stopped
returns-in_err-setup-clause-stopped g c = λ bytes before told holds.
    let p = err_from_is_err_and c.from_residual-in_err-setup.result c.from_residual-in_err-setup.ensures.1 in
    rw (p.1, p.2) (ends_header bytes before _ _ _ _ c.in_err-setup.ensures.stopped told holds)

pub returns-in_err-setup-clause-write_fault : goal.returns-in_err-setup-clause-write_fault
returns-in_err-setup-clause-write_fault g c = λ told.
    let p = err_from_is_err_and c.from_residual-in_err-setup.result c.from_residual-in_err-setup.ensures.1 in
    absurd (c.in_err-setup.ensures.unwritten (ap Err (err_same _ _ (ap Err (sym p.2) ∙ sym p.1 ∙ told))))
