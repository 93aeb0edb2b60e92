use Rattle.std.proofs.Common.{ap, ◌∙◌}
use Rattle.std.proofs.lemmas.Result.{err_from_is_err_and}
use Rattle.replay_core.proofs.Going.{sink_stops}
use Rattle.replay_core.proofs.Heading.{begun_run, begun_at, ends_begun, ends_head}
use Rattle.replay_core.proofs.by_rule.replay_run.Goals as goal

pub replay_events-requires-clause-begun : goal.replay_events-requires-clause-begun
replay_events-requires-clause-begun g c =
    (_, begun_run _ c.args.reading.now c.requires.begun.0 _ _ _ _ c.requires.certifier c.in_ok-run.ensures.setup c.in_ok-run.ensures.progress c.requires.begun.1)

pub returns-in_err-print_head-clause-stopped : goal.returns-in_err-print_head-clause-stopped
returns-in_err-print_head-clause-stopped g c = λ first b bytes before told holds.
    let p = err_from_is_err_and c.from_residual.result c.from_residual.ensures.1 in
    rw (p.1, p.2) (ends_begun bytes before c.args.reading.now first _ _ _ b told holds)

pub returns-in_err-run-clause-stopped : goal.returns-in_err-run-clause-stopped
returns-in_err-run-clause-stopped g c = λ first b bytes before told holds.
    let p = err_from_is_err_and c.from_residual-in_err-run.result c.from_residual-in_err-run.ensures.1 in
    rw (p.1, p.2) (ends_begun bytes before c.args.reading.now first _ _ _ b told holds)

pub returns-in_err-write_all-clause-stopped : goal.returns-in_err-write_all-clause-stopped
returns-in_err-write_all-clause-stopped g c = λ first b bytes before told holds.
    let p = err_from_is_err_and c.from_residual-in_err-write_all.result c.from_residual-in_err-write_all.ensures.1 in
    rw (p.1, p.2)
    (ends_head bytes before c.print_head.new.out.items c.args.reading.now first _ _ _ _ _ b told holds (rw c.new-text.ensures.items at c.in_ok-print_head.ensures.ok) (rw c.deref.ensures.value at c.in_err-write_all.ensures.front) (sink_stops bytes _))

pub returns-clause-whole : goal.returns-clause-whole
returns-clause-whole g c = λ first b bytes before told holds.
    c.replay_events.ensures.whole _ (begun_run _ c.args.reading.now first _ _ _ _ c.requires.certifier c.in_ok-run.ensures.setup c.in_ok-run.ensures.progress b) bytes before
    (begun_at bytes before c.print_head.new.out.items c.args.reading.now first _ _ _ _ b told holds (rw c.new-text.ensures.items at c.in_ok-print_head.ensures.ok) (rw c.deref.ensures.value at c.in_ok-write_all.ensures.whole))

pub returns-clause-stopped : goal.returns-clause-stopped
returns-clause-stopped g c = λ first b bytes before told holds.
    c.replay_events.ensures.stopped _ (begun_run _ c.args.reading.now first _ _ _ _ c.requires.certifier c.in_ok-run.ensures.setup c.in_ok-run.ensures.progress b) bytes before
    (begun_at bytes before c.print_head.new.out.items c.args.reading.now first _ _ _ _ b told holds (rw c.new-text.ensures.items at c.in_ok-print_head.ensures.ok) (rw c.deref.ensures.value at c.in_ok-write_all.ensures.whole))
