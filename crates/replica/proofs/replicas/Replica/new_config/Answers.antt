-- A node leads where the guard passes, and refuses elsewhere.
use Rattle.std.proofs.Common.{refl, sym, ap, ◌∙◌, append-nil}
use Rattle.protocol.specs.Choices.{when}
use Rattle.protocol.specs.ShardRules.{on_new_config}
use Rattle.replica.specs.Duties.{DutyState}
use Rattle.replica.proofs.replicas.Replica.new_config.Goals as goal

pub returns-then-not-may_lead-clause-answer : goal.returns-then-not-may_lead-clause-answer
unfolding on_new_config when
returns-then-not-may_lead-clause-answer g c = λ node.
    c.refusal.ensures ∙ rw (sym c.may_lead.ensures ∙ c.if-not-may_lead.true, c.epoch.ensures.epoch, c.least.ensures) refl

pub returns-then-not-may_lead-clause-kept : goal.returns-then-not-may_lead-clause-kept
unfolding on_new_config when
returns-then-not-may_lead-clause-kept g c = λ node. rw (sym c.may_lead.ensures ∙ c.if-not-may_lead.true) refl

pub returns-then-not-may_lead-clause-sends : goal.returns-then-not-may_lead-clause-sends
unfolding on_new_config when
returns-then-not-may_lead-clause-sends g c = λ node. rw (sym c.may_lead.ensures ∙ c.if-not-may_lead.true) (sym (append-nil c.args.out.now.items))

pub returns-clause-answer : goal.returns-clause-answer
unfolding on_new_config when
returns-clause-answer g c = λ node. rw (sym c.may_lead.ensures ∙ c.if-not-may_lead.false) refl

pub returns-clause-kept : goal.returns-clause-kept
unfolding on_new_config when
returns-clause-kept g c = λ node.
    rw (sym c.may_lead.ensures ∙ c.if-not-may_lead.false, c.lead.ensures, ← c.self.view_is) refl

pub returns-clause-sends : goal.returns-clause-sends
unfolding on_new_config when
returns-clause-sends g c = λ node.
    let rows = c.rows-rows.ensures.rows ∙ c.log.ensures ∙ ap (λ (d : DutyState). d.rows) c.role.ensures in
    rw (sym c.may_lead.ensures ∙ c.if-not-may_lead.false, ← c.self.view_is, ← rows) c.in_ok-send_states.ensures.ok
