use Rattle.std.proofs.Common.{sym, subst}
use Rattle.tcs_terms.specs.declared.inputs.Event.{Event}
use Rattle.tcs_terms.specs.Runs.{MayStand}
use Rattle.generated_runs.specs.Setup.{setup}
use Rattle.workload.proofs.Steps.{few_before, next_stands, stands_where}
use Rattle.workload.proofs.generations.happen_next.Goals as goal

pub happen-requires-clause-few : goal.happen-requires-clause-few
happen-requires-clause-few g c = few_before c.args.plan.seed c.args.plan.count c.args.place c.args.world.now c.requires.place c.requires.most c.requires.world

pub happen-requires-clause-fits : goal.happen-requires-clause-fits
happen-requires-clause-fits g c =
    subst (λ (e : Event). MayStand setup e) (sym c.requires.event) (next_stands c.args.plan.seed c.args.plan.count c.args.place c.requires.place c.requires.most c.requires.world.within)

pub returns-clause-stands : goal.returns-clause-stands
returns-clause-stands g c =
    stands_where c.happen.result c.args.plan.seed c.args.plan.count c.args.place c.args.world.now c.happen.new.world c.args.chosen.event c.args.chosen.reads c.args.course.now c.happen.new.course
    c.requires.world.run_is c.requires.event c.requires.reads c.requires.next c.happen.ensures.course c.happen.ensures.run c.happen.ensures.setup c.happen.ensures.lives c.happen.ensures.within
