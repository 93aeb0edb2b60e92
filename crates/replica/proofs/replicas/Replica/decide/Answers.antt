-- The row is marked where the guard passes, and nothing is sent either way.
use Rattle.std.proofs.Common.{refl, sym, ◌∙◌}
use Rattle.protocol.specs.Choices.{when}
use Rattle.protocol.specs.ShardRules.{on_decision}
use Rattle.replica.proofs.replicas.Replica.decide.Goals as goal

pub returns-then-not-may_mark-clause-answer : goal.returns-then-not-may_mark-clause-answer
unfolding on_decision when
returns-then-not-may_mark-clause-answer g c = λ node. c.refusal.ensures
    ∙ rw (sym c.may_mark.ensures ∙ c.if-not-may_mark.true, c.state.ensures.state, c.role.ensures, ← c.self.view_is) refl

pub returns-then-not-may_mark-clause-kept : goal.returns-then-not-may_mark-clause-kept
unfolding on_decision when
returns-then-not-may_mark-clause-kept g c = λ node. rw (sym c.may_mark.ensures ∙ c.if-not-may_mark.true) refl

pub returns-clause-answer : goal.returns-clause-answer
unfolding on_decision when
returns-clause-answer g c = λ node. rw (sym c.may_mark.ensures ∙ c.if-not-may_mark.false) refl

pub returns-clause-kept : goal.returns-clause-kept
unfolding on_decision when
returns-clause-kept g c = λ node.
    rw (sym c.may_mark.ensures ∙ c.if-not-may_mark.false, c.in_ok-decide.ensures, ← c.self.view_is) refl
