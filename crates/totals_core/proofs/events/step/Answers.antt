use Rattle.totals_core.proofs.CommutingEvents.{stepped_on}
use Rattle.totals_core.proofs.events.step.Goals as goal

pub returns-in-Ok-clause-stepped : goal.returns-in-Ok-clause-stepped
returns-in-Ok-clause-stepped g c = λ d es r.
    stepped_on g.G.Rule.Certifier.tests _ _ _ _ d es c.args.event c.in-Ok.field-0 r c.in-Ok.ensures.answer (c.in-Ok.ensures.record c.in-Ok.ensures.spent) c.in-Ok.ensures.setup
