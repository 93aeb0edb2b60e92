-- A whole state is taken where the guard passes, and refused elsewhere.
use Rattle.std.proofs.Common.{refl, sym, ◌∙◌}
use Rattle.protocol.specs.Choices.{when}
use Rattle.protocol.specs.ShardRules.{on_new_state}
use Rattle.replica.proofs.replicas.Replica.new_state.Goals as goal

pub returns-then-not-may_take_whole-clause-answer : goal.returns-then-not-may_take_whole-clause-answer
unfolding on_new_state when
returns-then-not-may_take_whole-clause-answer g c = λ node.
    c.refusal.ensures ∙ rw (sym c.may_take_whole.ensures ∙ c.if-not-may_take_whole.true, c.epoch.ensures.epoch, c.least.ensures) refl

pub returns-then-not-may_take_whole-clause-kept : goal.returns-then-not-may_take_whole-clause-kept
unfolding on_new_state when
returns-then-not-may_take_whole-clause-kept g c = λ node. rw (sym c.may_take_whole.ensures ∙ c.if-not-may_take_whole.true) refl

pub returns-clause-answer : goal.returns-clause-answer
unfolding on_new_state when
returns-clause-answer g c = λ node. rw (sym c.may_take_whole.ensures ∙ c.if-not-may_take_whole.false) refl

pub returns-clause-kept : goal.returns-clause-kept
unfolding on_new_state when
returns-clause-kept g c = λ node.
    rw (sym c.may_take_whole.ensures ∙ c.if-not-may_take_whole.false, c.in_ok-follow.ensures.follows, c.into_list.ensures.list, c.drop_below.ensures, c.epoch-2.ensures.epoch, ← c.self.view_is) refl
