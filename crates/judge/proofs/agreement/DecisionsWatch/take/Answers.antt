-- A note agrees with those before it, as what is kept of them tells.
use Rattle.std.proofs.Common.{sym, ◌∙◌}
use Rattle.judge.proofs.Keeping.{agrees_same, decisions_step}
use Rattle.judge.proofs.agreement.DecisionsWatch.take.Goals as goal

pub returns-clause-passes : goal.returns-clause-passes
returns-clause-passes c = λ past stood. c.in_ok-agrees.ensures.agrees ∙ agrees_same _ _ past c.args.note.now stood

pub returns-clause-stands : goal.returns-clause-stands
returns-clause-stands c = λ passes past stood.
    rw (c.in_ok-agrees.ensures.begun, c.in_ok-agrees.ensures.decisions)
    (decisions_step _ _ past c.args.note.now stood (sym c.in_ok-agrees.ensures.agrees ∙ passes))
