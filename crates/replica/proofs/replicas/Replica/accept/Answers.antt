-- An entry is accepted where the guard passes, and refused elsewhere.
use Rattle.std.proofs.Common.{refl, sym, ◌∙◌, append-nil}
use Rattle.protocol.specs.Choices.{when}
use Rattle.protocol.specs.ShardRules.{on_accept}
use Rattle.replica.proofs.replicas.Replica.accept.Goals as goal

pub returns-then-not-may_accept-clause-answer : goal.returns-then-not-may_accept-clause-answer
unfolding on_accept when
returns-then-not-may_accept-clause-answer g c = λ node. c.refusal.ensures
    ∙ rw (sym c.may_accept.ensures ∙ c.if-not-may_accept.true, c.promised.ensures.promised, c.role.ensures, ← c.self.view_is) refl

pub returns-then-not-may_accept-clause-kept : goal.returns-then-not-may_accept-clause-kept
unfolding on_accept when
returns-then-not-may_accept-clause-kept g c = λ node. rw (sym c.may_accept.ensures ∙ c.if-not-may_accept.true) refl

pub returns-then-not-may_accept-clause-sends : goal.returns-then-not-may_accept-clause-sends
unfolding on_accept when
returns-then-not-may_accept-clause-sends g c = λ node. rw (sym c.may_accept.ensures ∙ c.if-not-may_accept.true) (sym (append-nil c.args.out.now.items))

pub returns-clause-answer : goal.returns-clause-answer
unfolding on_accept when
returns-clause-answer g c = λ node. rw (sym c.may_accept.ensures ∙ c.if-not-may_accept.false) refl

pub returns-clause-kept : goal.returns-clause-kept
unfolding on_accept when
returns-clause-kept g c = λ node.
    rw (sym c.may_accept.ensures ∙ c.if-not-may_accept.false, c.in_ok-accept.ensures.rows, ← c.self.view_is) refl

pub returns-clause-sends : goal.returns-clause-sends
unfolding on_accept when
returns-clause-sends g c = λ node.
    rw (sym c.may_accept.ensures ∙ c.if-not-may_accept.false, ← c.self.view_is, ← c.entry.view_is) c.in_ok-push.ensures.items
