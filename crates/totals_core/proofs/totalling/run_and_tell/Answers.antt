use Rattle.std.proofs.Common.{Err, ap, sym, ◌∙◌}
use Rattle.std.proofs.lemmas.Result.{err_from_is_err_and}
use Rattle.replay_core.proofs.Heading.{err_same}
use Rattle.totals_core.proofs.Begun.{commute_read, run_begun}
use Rattle.totals_core.proofs.Told.{ends_telling, ends_unwritten, finishes, if_err, on_ok, stops_begun, stops_unbegun}
use Rattle.totals_core.proofs.totalling.run_and_tell.Goals as goal

pub returns-in_err-reading-clause-stopped : goal.returns-in_err-reading-clause-stopped
returns-in_err-reading-clause-stopped g c = λ bytes before told holds.
    let p = err_from_is_err_and c.from_residual.result c.from_residual.ensures.1 in
    rw (p.1, p.2) (ends_unwritten bytes before _ _ _ holds (stops_unbegun bytes _ told))

pub returns-in_err-setup-clause-stopped : goal.returns-in_err-setup-clause-stopped
returns-in_err-setup-clause-stopped g c = λ bytes before told holds.
    let p = err_from_is_err_and c.from_residual-in_err-setup.result c.from_residual-in_err-setup.ensures.1 in
    rw (p.1, p.2) (ends_unwritten bytes before _ _ _ holds (c.in_err-setup.ensures.stopped bytes told))

pub returns-in_err-setup-clause-write_fault : goal.returns-in_err-setup-clause-write_fault
returns-in_err-setup-clause-write_fault g c = λ told.
    let p = err_from_is_err_and c.from_residual-in_err-setup.result c.from_residual-in_err-setup.ensures.1 in
    absurd (c.in_err-setup.ensures.unwritten (ap Err (err_same _ _ (ap Err (sym p.2) ∙ sym p.1 ∙ told))))

pub returns-in_err-world-clause-stopped : goal.returns-in_err-world-clause-stopped
returns-in_err-world-clause-stopped g c = λ bytes before told holds.
    let p = err_from_is_err_and c.from_residual-in_err-world.result c.from_residual-in_err-world.ensures.1 in
    rw (p.1, p.2) (ends_unwritten bytes before _ _ _ holds (stops_begun bytes _ _ _ _ c.in_ok-setup.ensures.begun told))

pub run_events-requires-clause-begun : goal.run_events-requires-clause-begun
run_events-requires-clause-begun g c = (_, run_begun _ _ _ _ _ c.in_ok-setup.ensures.begun c.in_ok-world.ensures)

pub run_events-requires-clause-many : goal.run_events-requires-clause-many
run_events-requires-clause-many g c = c.in_ok-setup.ensures.begun.many

pub run_events-requires-clause-commute : goal.run_events-requires-clause-commute
run_events-requires-clause-commute g c = commute_read _ _ _ _ c.in_ok-setup.ensures.begun

pub returns-in_err-run_events-clause-stopped : goal.returns-in_err-run_events-clause-stopped
returns-in_err-run_events-clause-stopped g c = λ bytes before told holds.
    let p = err_from_is_err_and c.from_residual-in_err-run_events.result c.from_residual-in_err-run_events.ensures.1 in
    let b = c.in_ok-setup.ensures.begun in
    rw (p.1, p.2) (ends_unwritten bytes before _ _ _ holds (c.in_err-run_events.ensures.stopped _ (run_begun _ _ _ _ _ b c.in_ok-world.ensures) bytes (b.begun.read bytes told).0))

pub returns-in_err-run_events-clause-write_fault : goal.returns-in_err-run_events-clause-write_fault
returns-in_err-run_events-clause-write_fault g c = λ told.
    let p = err_from_is_err_and c.from_residual-in_err-run_events.result c.from_residual-in_err-run_events.ensures.1 in
    absurd (c.in_err-run_events.ensures.unwritten (ap Err (err_same _ _ (ap Err (sym p.2) ∙ sym p.1 ∙ told))))

pub returns-clause-whole : goal.returns-clause-whole
returns-clause-whole g c = λ bytes before told holds.
    let b = c.in_ok-setup.ensures.begun in
    let run = c.in_ok-run_events.ensures.whole _ (run_begun _ _ _ _ _ b c.in_ok-world.ensures) bytes (b.begun.read bytes told).0 in
    on_ok _ _ _ (finishes bytes _ _ _ run before _) (c.tell.ensures.whole before holds)

pub returns-clause-stopped : goal.returns-clause-stopped
returns-clause-stopped g c = λ bytes before told holds.
    let b = c.in_ok-setup.ensures.begun in
    let run = c.in_ok-run_events.ensures.whole _ (run_begun _ _ _ _ _ b c.in_ok-world.ensures) bytes (b.begun.read bytes told).0 in
    if_err _ _ _ (ends_telling bytes _ _ _ run before _) (c.tell.ensures.stopped before holds)
