use Rattle.std.proofs.Common.{sym, subst, ap, ◌∙◌, ◌++◌, List, ℕ, arith}
use Rattle.std.proofs.lemmas.Result.{err_from_is_err_and}
use Rattle.tcs_terms.specs.declared.inputs.Event.{Event}
use Rattle.schedule_text.specs.Text.{with_feed, event_line}
use Rattle.workload.specs.Texts.{front_until}
use Rattle.workload.proofs.Stopping.{cut_before, cut_line, front_on, line_written, not_taken}
use Rattle.workload.proofs.generating.write_event.Goals as goal

pub returns-in_err-print_event-clause-stopped : goal.returns-in_err-print_event-clause-stopped
returns-in_err-print_event-clause-stopped g c = λ before holds.
    let p = err_from_is_err_and c.from_residual-in_err-print_event.result c.from_residual-in_err-print_event.ensures.1 in
    rw (p.1, p.2) (cut_before c.args.plan.seed c.args.plan.count c.args.place before _ (omega (arith, c.requires.place)) c.requires.stands.world_is.within holds)

pub returns-in_err-happen_next-clause-stopped : goal.returns-in_err-happen_next-clause-stopped
returns-in_err-happen_next-clause-stopped g c = λ before holds.
    let p = err_from_is_err_and c.from_residual-in_err-happen_next.result c.from_residual-in_err-happen_next.ensures.1 in
    rw (p.1, p.2) (not_taken c.args.plan.seed c.args.plan.count c.args.place before _ _ c.requires.place c.requires.most c.requires.stands.world_is.within holds c.in_err-happen_next.ensures.stopped)

pub returns-in_err-write_all-clause-stopped : goal.returns-in_err-write_all-clause-stopped
returns-in_err-write_all-clause-stopped g c = λ before holds.
    let p = err_from_is_err_and c.from_residual-in_err-write_all.result c.from_residual-in_err-write_all.ensures.1 in
    let so_far = front_until c.args.plan.seed c.args.plan.count c.args.place in
    let piece = c.deref.ensures.value ∙ c.in_ok-print_event.ensures.ok ∙ ap (λ (t : List ℕ). t ++ with_feed (event_line c.in_ok-next.next.event)) c.clear.ensures.items
    ∙ ap (λ (e : Event). with_feed (event_line e)) c.in_ok-next.ensures.event in
    rw (p.1, p.2) (cut_line c.args.plan.seed c.args.plan.count _ before so_far c.deref.result.now _ _ (omega (arith, c.requires.place)) c.in_ok-happen_next.ensures.stands.world_is.within
    (front_on c.args.plan.seed c.args.plan.count c.args.place ∙ ap (λ (t : List ℕ). so_far ++ t) (sym piece)) (c.in_err-write_all.ensures.front (before ++ so_far) holds))

pub returns-clause-whole : goal.returns-clause-whole
returns-clause-whole g c = λ before holds.
    let so_far = front_until c.args.plan.seed c.args.plan.count c.args.place in
    let piece = c.deref.ensures.value ∙ c.in_ok-print_event.ensures.ok ∙ ap (λ (t : List ℕ). t ++ with_feed (event_line c.in_ok-next.next.event)) c.clear.ensures.items
    ∙ ap (λ (e : Event). with_feed (event_line e)) c.in_ok-next.ensures.event in
    line_written c.args.plan.seed c.args.plan.count c.args.place before c.deref.result.now _ piece (c.in_ok-write_all.ensures.whole (before ++ so_far) holds)
