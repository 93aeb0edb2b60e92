use Rattle.std.proofs.Common.{◌∙◌, ap, List, ℕ, ◌++◌, ◌∷◌, [], arith}
use Rattle.std.proofs.lemmas.Result.{err_from_is_err_and}
use Rattle.workload.specs.Texts.{front_until}
use Rattle.workload.proofs.Stopping.{all_written, cut_before, cut_end, front_ends}
use Rattle.workload.proofs.generating.write_lines.Goals as goal

pub returns-in_err-put-clause-stopped : goal.returns-in_err-put-clause-stopped
returns-in_err-put-clause-stopped g c = λ before holds.
    let p = err_from_is_err_and c.from_residual-in_err-put.result c.from_residual-in_err-put.ensures.1 in
    rw (p.1, p.2) (cut_before c.args.plan.seed c.args.plan.count c.args.plan.count before _ (omega arith) c.in_ok-write_events.ensures.stands.world_is.within (c.in_ok-write_events.ensures.whole before holds))

pub returns-in_err-write_all-clause-stopped : goal.returns-in_err-write_all-clause-stopped
returns-in_err-write_all-clause-stopped g c = λ before holds.
    let p = err_from_is_err_and c.from_residual-in_err-write_all.result c.from_residual-in_err-write_all.ensures.1 in
    let seed = c.args.plan.seed in
    let count = c.args.plan.count in
    let last = c.deref.ensures.value ∙ c.in_ok-put.ensures.ok ∙ ap (λ (t : List ℕ). t ++ (101 ∷ 110 ∷ 100 ∷ 10 ∷ [])) c.clear.ensures.items in
    rw (p.1, p.2) (cut_end seed count before c.deref.result.now _ _ c.in_ok-write_events.ensures.stands.world_is.within (front_ends seed count c.deref.result.now last)
    (c.in_err-write_all.ensures.front (before ++ front_until seed count count) (c.in_ok-write_events.ensures.whole before holds)))

pub returns-clause-whole : goal.returns-clause-whole
returns-clause-whole g c = λ before holds.
    let seed = c.args.plan.seed in
    let count = c.args.plan.count in
    let last = c.deref.ensures.value ∙ c.in_ok-put.ensures.ok ∙ ap (λ (t : List ℕ). t ++ (101 ∷ 110 ∷ 100 ∷ 10 ∷ [])) c.clear.ensures.items in
    all_written seed count before c.deref.result.now _ c.requires.most c.in_ok-write_events.ensures.stands.world_is.within last
    (c.in_ok-write_all.ensures.whole (before ++ front_until seed count count) (c.in_ok-write_events.ensures.whole before holds))
