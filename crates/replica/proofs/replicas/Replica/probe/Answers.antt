-- A promise that is too low is refused, and another one is given.
use Rattle.std.proofs.Common.{◌≡◌, true, false, refl, sym, ap, ◌∙◌, arith, append-nil}
use Rattle.std.proofs.lemmas.Bool.Decides.{nat_tests}
use Rattle.std.specs.Prelude.{nat_le}
use Rattle.protocol.specs.Choices.{when}
use Rattle.protocol.specs.Outcomes.{refuses}
use Rattle.protocol.specs.Records.{NodeRecord}
use Rattle.protocol.specs.ShardRules.{least, on_probe}
use Rattle.replica.specs.Duties.{DutyState}
use Rattle.replica.specs.Replicas.{within}
use Rattle.replica.proofs.replicas.Replica.probe.Given.{Over}
use Rattle.replica.proofs.replicas.Replica.probe.Goals as goal

unmet : (g : Over) (c : goal.After-refusal g) (node : NodeRecord)
    → on_probe (within node c.args.self.now) c.args.from c.args.epoch ≡ refuses c.args.epoch c.least-least.result (within node c.args.self.now)
unfolding on_probe when
unmet g c node =
    let is = c.least-least.ensures in
    let low : nat_le (least (within node c.args.self.now)) c.args.epoch ≡ false = grind (arith, nat_tests) in
    rw (low, is) refl

high : (g : Over) (c : goal.After-self-2-1 g) (node : NodeRecord) → nat_le (least (within node c.args.self.now)) c.args.epoch ≡ true
high g c node = let is = c.least-least.ensures in grind (arith, nat_tests)

pub returns-then-epoch-least-clause-answer : goal.returns-then-epoch-least-clause-answer
returns-then-epoch-least-clause-answer g c = λ node. rw (unmet g c node) c.refusal.ensures

pub returns-then-epoch-least-clause-kept : goal.returns-then-epoch-least-clause-kept
returns-then-epoch-least-clause-kept g c = λ node. rw (unmet g c node) refl

pub returns-then-epoch-least-clause-sends : goal.returns-then-epoch-least-clause-sends
returns-then-epoch-least-clause-sends g c = λ node. rw (unmet g c node) (sym (append-nil c.args.out.now.items))

pub returns-clause-answer : goal.returns-clause-answer
unfolding on_probe when
returns-clause-answer g c = λ node. rw (high g c node) refl

pub returns-clause-kept : goal.returns-clause-kept
unfolding on_probe when
returns-clause-kept g c = λ node. rw (high g c node, c.fence.ensures, c.drop_below.ensures, ← c.self.view_is) refl

pub returns-clause-sends : goal.returns-clause-sends
unfolding on_probe when
returns-clause-sends g c = λ node.
    let state = c.state.ensures.state ∙ ap (λ (d : DutyState). d.state) c.role.ensures in
    rw (high g c node, ← c.self.view_is, ← state) c.in_ok-push.ensures.items
