-- A lost transaction was taken over before, as what is kept of the notes so far tells.
use Rattle.std.proofs.Common.{◌∙◌}
use Rattle.judge.proofs.Keeping.{lost_same, taken_step}
use Rattle.judge.proofs.losses.TakeOversWatch.take.Goals as goal

pub returns-clause-passes : goal.returns-clause-passes
returns-clause-passes c = λ past stood. c.in_ok-passes.ensures.passes ∙ lost_same _ past stood c.args.note.now

pub returns-clause-stands : goal.returns-clause-stands
returns-clause-stands c = λ passes past stood. rw (c.in_ok-passes.ensures.taken) (taken_step _ past c.args.note.now stood)
