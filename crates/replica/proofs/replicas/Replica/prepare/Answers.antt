-- A transaction is prepared where the guard passes and its log has a slot for it.
use Rattle.std.proofs.Common.{◌≡◌, true, false, [], ◌∷◌, Err, refl, sym, ap, ◌∙◌, append-nil}
use Rattle.protocol.specs.Choices.{when}
use Rattle.tcs_terms.specs.declared.messages.Message.TheVariants.{PrepareAck}
use Rattle.protocol.specs.Outcomes.{to, acts}
use Rattle.protocol.specs.Records.{NodeRecord}
use Rattle.protocol.specs.ShardRules.{with_rows, on_prepare}
use Rattle.cert_log.specs.declared.faults.PrepareFault.TheVariants.{Full}
use Rattle.cert_log.specs.Preparing.{prepared_entry, prepared_rows, finds_no_room}
use Rattle.replica.specs.Replicas.{within}
use Rattle.replica.proofs.PrepareRule.{prepares, has_no_room, room_where_ok}
use Rattle.replica.proofs.replicas.Replica.prepare.Given.{Over}
use Rattle.replica.proofs.replicas.Replica.prepare.Goals as goal

room : (g : Over) (c : goal.After-self-2-1 g) → finds_no_room c.self.inside.duty.rows c.args.txn ≡ false
room g c = room_where_ok (finds_no_room c.self.inside.duty.rows c.args.txn) c.in-Ok.entry Full c.in-Ok.ensures.full.1

answered : (g : Over) (c : goal.After-self-2-1 g) (node : NodeRecord)
    → on_prepare g.G.Rule.Certifier.tests (within node c.args.self.now) c.args.from c.args.epoch c.args.txn c.args.shards c.args.part
    ≡ acts (with_rows (within node c.args.self.now) (prepared_rows g.G.Rule.Certifier.tests c.args.self.now.rows c.args.txn c.args.shards c.args.part))
    (to c.args.from (PrepareAck c.args.self.now.shard c.args.epoch (prepared_entry g.G.Rule.Certifier.tests c.args.self.now.rows c.args.txn c.args.shards c.args.part)) ∷ [])
answered g c node =
    prepares g.G.Rule.Certifier.tests (within node c.args.self.now) c.args.from c.args.epoch c.args.txn c.args.shards c.args.part
    (sym c.may_prepare.ensures ∙ c.if-not-may_prepare.false) (rw (← c.self.view_is) (room g c))

pub returns-then-not-may_prepare-clause-answer : goal.returns-then-not-may_prepare-clause-answer
unfolding on_prepare when
returns-then-not-may_prepare-clause-answer g c = λ node.
    c.refusal.ensures
    ∙ rw (sym c.may_prepare.ensures ∙ c.if-not-may_prepare.true, c.promised.ensures.promised, c.role.ensures, ← c.self.view_is) refl

pub returns-then-not-may_prepare-clause-kept : goal.returns-then-not-may_prepare-clause-kept
unfolding on_prepare when
returns-then-not-may_prepare-clause-kept g c = λ node. rw (sym c.may_prepare.ensures ∙ c.if-not-may_prepare.true) refl

pub returns-then-not-may_prepare-clause-sends : goal.returns-then-not-may_prepare-clause-sends
unfolding on_prepare when
returns-then-not-may_prepare-clause-sends g c = λ node. rw (sym c.may_prepare.ensures ∙ c.if-not-may_prepare.true) (sym (append-nil c.args.out.now.items))

pub returns-in-Err-Full-clause-answer : goal.returns-in-Err-Full-clause-answer
returns-in-Err-Full-clause-answer g c = λ node.
    let full = c.in-Err-Full.ensures.full.0 (ap Err c.in-Err-Full.field-0-is) in
    rw (has_no_room g.G.Rule.Certifier.tests (within node c.args.self.now) c.args.from c.args.epoch c.args.txn c.args.shards c.args.part
    (sym c.may_prepare.ensures ∙ c.if-not-may_prepare.false) (rw (← c.self.view_is) full)) refl

pub returns-in-Err-Full-clause-kept : goal.returns-in-Err-Full-clause-kept
returns-in-Err-Full-clause-kept g c = λ node.
    let full = c.in-Err-Full.ensures.full.0 (ap Err c.in-Err-Full.field-0-is) in
    rw (
      has_no_room g.G.Rule.Certifier.tests (within node c.args.self.now) c.args.from c.args.epoch c.args.txn c.args.shards c.args.part
          (sym c.may_prepare.ensures ∙ c.if-not-may_prepare.false) (rw (← c.self.view_is) full),
      c.in-Err-Full.ensures.err,
      ← c.self.view_is,
    ) refl

pub returns-in-Err-Full-clause-sends : goal.returns-in-Err-Full-clause-sends
returns-in-Err-Full-clause-sends g c = λ node.
    let full = c.in-Err-Full.ensures.full.0 (ap Err c.in-Err-Full.field-0-is) in
    rw (has_no_room g.G.Rule.Certifier.tests (within node c.args.self.now) c.args.from c.args.epoch c.args.txn c.args.shards c.args.part
    (sym c.may_prepare.ensures ∙ c.if-not-may_prepare.false) (rw (← c.self.view_is) full)) (sym (append-nil c.args.out.now.items))

pub returns-clause-answer : goal.returns-clause-answer
returns-clause-answer g c = λ node. rw (answered g c node) refl

pub returns-clause-kept : goal.returns-clause-kept
returns-clause-kept g c = λ node. rw (answered g c node, c.in-Ok.ensures.rows, ← c.self.view_is) refl

pub returns-clause-sends : goal.returns-clause-sends
returns-clause-sends g c = λ node. rw (answered g c node, ← c.self.view_is, ← c.in-Ok.ensures.entry) c.in_ok-push.ensures.items
