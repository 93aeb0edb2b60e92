use Rattle.std.proofs.Common.{◌∙◌, ap, sym, List, ℕ, ◌++◌}
use Rattle.std.proofs.lemmas.Result.{err_from_is_err_and}
use Rattle.std.specs.List.{flat_map}
use Rattle.tcs_terms.specs.Setups.{Deployment}
use Rattle.schedule_text.specs.Text.{setup_lines, with_feed}
use Rattle.world.specs.WorldState.{WorldState}
use Rattle.workload.proofs.Steps.{stands_first}
use Rattle.workload.proofs.Stopping.{cut_header, header_written, nothing_written}
use Rattle.workload.proofs.generating.write_schedule.Goals as goal

pub returns-in_err-world-clause-stopped : goal.returns-in_err-world-clause-stopped
returns-in_err-world-clause-stopped g c = λ before holds.
    let p = err_from_is_err_and c.from_residual.result c.from_residual.ensures.1 in
    rw (p.1, p.2) (nothing_written c.args.plan.seed c.args.plan.count before _ holds)

pub returns-in_err-print_setup-clause-stopped : goal.returns-in_err-print_setup-clause-stopped
returns-in_err-print_setup-clause-stopped g c = λ before holds.
    let p = err_from_is_err_and c.from_residual-in_err-print_setup.result c.from_residual-in_err-print_setup.ensures.1 in
    rw (p.1, p.2) (nothing_written c.args.plan.seed c.args.plan.count before _ holds)

pub write_lines-requires-clause-begins : goal.write_lines-requires-clause-begins
write_lines-requires-clause-begins g c = stands_first c.args.plan.seed c.args.plan.count _ _ c.first-course.ensures c.in_ok-world.ensures

pub returns-in_err-write_all-clause-stopped : goal.returns-in_err-write_all-clause-stopped
returns-in_err-write_all-clause-stopped g c = λ before holds.
    let p = err_from_is_err_and c.from_residual-in_err-write_all.result c.from_residual-in_err-write_all.ensures.1 in
    let piece = c.deref.ensures.value ∙ c.in_ok-print_setup.ensures.ok ∙ ap (λ (t : List ℕ). t ++ flat_map with_feed (setup_lines c.setup.result.now)) c.new-text.ensures.items
    ∙ ap (λ (d : Deployment). flat_map with_feed (setup_lines d)) (c.setup.ensures ∙ ap (λ (w : WorldState). w.setup) c.in_ok-world.ensures) in
    rw (p.1, p.2) (cut_header c.args.plan.seed c.args.plan.count before c.deref.result.now _ _ piece (c.in_err-write_all.ensures.front before holds))

pub returns-clause-whole : goal.returns-clause-whole
returns-clause-whole g c = λ before holds.
    let piece = c.deref.ensures.value ∙ c.in_ok-print_setup.ensures.ok ∙ ap (λ (t : List ℕ). t ++ flat_map with_feed (setup_lines c.setup.result.now)) c.new-text.ensures.items
    ∙ ap (λ (d : Deployment). flat_map with_feed (setup_lines d)) (c.setup.ensures ∙ ap (λ (w : WorldState). w.setup) c.in_ok-world.ensures) in
    c.write_lines.ensures.whole before (header_written c.args.plan.seed c.args.plan.count before c.deref.result.now _ piece (c.in_ok-write_all.ensures.whole before holds))

pub returns-clause-stopped : goal.returns-clause-stopped
returns-clause-stopped g c = λ before holds.
    let piece = c.deref.ensures.value ∙ c.in_ok-print_setup.ensures.ok ∙ ap (λ (t : List ℕ). t ++ flat_map with_feed (setup_lines c.setup.result.now)) c.new-text.ensures.items
    ∙ ap (λ (d : Deployment). flat_map with_feed (setup_lines d)) (c.setup.ensures ∙ ap (λ (w : WorldState). w.setup) c.in_ok-world.ensures) in
    c.write_lines.ensures.stopped before (header_written c.args.plan.seed c.args.plan.count before c.deref.result.now _ piece (c.in_ok-write_all.ensures.whole before holds))
