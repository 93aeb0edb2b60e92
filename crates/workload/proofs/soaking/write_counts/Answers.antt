use Rattle.std.proofs.Common.{◌∙◌}
use Rattle.std.proofs.lemmas.Result.{err_from_is_err_and}
use Rattle.workload.proofs.Completing.{counts_are, counts_cut, counts_told, nothing_told, run_stopped}
use Rattle.workload.proofs.Steps.{stands_first}
use Rattle.workload.proofs.soaking.write_counts.Goals as goal

pub run_events-requires-clause-begins : goal.run_events-requires-clause-begins
run_events-requires-clause-begins g c = stands_first c.args.plan.seed c.args.plan.count _ _ c.first-course.ensures c.in_ok-world.ensures

pub returns-in_err-run_events-clause-stopped : goal.returns-in_err-run_events-clause-stopped
returns-in_err-run_events-clause-stopped g c = λ before holds.
    let p = err_from_is_err_and c.from_residual-in_err-run_events.result c.from_residual-in_err-run_events.ensures.1 in
    rw (p.1, p.2) (run_stopped c.args.plan.seed c.args.plan.count before _ _ holds c.in_err-run_events.ensures.stopped)

pub returns-in_err-text-clause-stopped : goal.returns-in_err-text-clause-stopped
returns-in_err-text-clause-stopped g c = λ before holds.
    let p = err_from_is_err_and c.from_residual-in_err-text.result c.from_residual-in_err-text.ensures.1 in
    rw (p.1, p.2) (nothing_told c.args.plan.seed c.args.plan.count before _ holds)

pub returns-in_err-write_all-clause-stopped : goal.returns-in_err-write_all-clause-stopped
returns-in_err-write_all-clause-stopped g c = λ before holds.
    let p = err_from_is_err_and c.from_residual-in_err-write_all.result c.from_residual-in_err-write_all.ensures.1 in
    let at = c.in_ok-run_events.ensures.stands.world_is in
    let piece = counts_are c.args.plan.seed c.args.plan.count c.run_events.new.world c.deref.result.now at (c.deref.ensures.value ∙ c.in_ok-text.ensures) in
    rw (p.1, p.2) (counts_cut c.args.plan.seed c.args.plan.count before c.deref.result.now _ _ at.within piece (c.in_err-write_all.ensures.front before holds))

pub returns-clause-whole : goal.returns-clause-whole
returns-clause-whole g c = λ before holds.
    let at = c.in_ok-run_events.ensures.stands.world_is in
    let piece = counts_are c.args.plan.seed c.args.plan.count c.run_events.new.world c.deref.result.now at (c.deref.ensures.value ∙ c.in_ok-text.ensures) in
    counts_told c.args.plan.seed c.args.plan.count before c.deref.result.now _ c.requires.most at.within piece (c.in_ok-write_all.ensures.whole before holds)
