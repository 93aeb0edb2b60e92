use Rattle.std.proofs.Common.{◌≡◌, ◌∙◌, ap}
use Rattle.protocol.specs.Records.{NodeRecord}
use Rattle.node_core.proofs.Heard.{is_heard, received}
use Rattle.node_core.proofs.parts.Parts.receive.Goals as goal

pub returns-clause-answer : goal.returns-clause-answer
returns-clause-answer g c = rw (is_heard _ _ c.args.self.now c.args.from c.args.message).answer c.in_ok-handled.ensures.answer

pub returns-clause-kept : goal.returns-clause-kept
returns-clause-kept g c = rw (is_heard _ _ c.args.self.now c.args.from c.args.message).kept c.in_ok-handled.ensures.kept

pub returns-clause-sends : goal.returns-clause-sends
returns-clause-sends g c =
    let promised : c.promised-full_mark.result ≡ c.args.self.now.promised = c.promised-full_mark.ensures.promised ∙ ap (λ (n : NodeRecord). n.promised) c.self.view_is in
    received _ _ c.args.self.now c.args.from c.args.message c.args.out.now.items _ _ _ _ c.in_ok-handled.ensures.answer promised c.in_ok-handled.ensures.sends
    (rw (c.is_answered-told.ensures, c.kind-kind.ensures) at c.in_ok-tell_if.ensures)

pub returns-clause-notes : goal.returns-clause-notes
returns-clause-notes g c = rw (is_heard _ _ c.args.self.now c.args.from c.args.message).notes c.in_ok-handled.ensures.notes
