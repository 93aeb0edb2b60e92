use Rattle.std.proofs.Common.{length, ap, arith}
use Rattle.protocol_laws.specs.Promises.{world_of}
use Rattle.replay_core.proofs.Steps.{grows, stepped, written_is}
use Rattle.replay_core.proofs.stepping.step.Goals as goal

pub notes_from-requires : goal.notes_from-requires
notes_from-requires g c =
    let more = grows g.R.Run.tests _ _ c.args.event c.in_ok-result.result c.in_ok-result.ensures.answer in
    omega (arith, more.0, ap length c.history-noted.ensures, ap length c.history.ensures, ap (λ q. length (world_of q).history) c.in_ok-result.ensures.record)

pub print_messages-requires-clause-within : goal.print_messages-requires-clause-within
print_messages-requires-clause-within g c =
    let more = grows g.R.Run.tests _ _ c.args.event c.in_ok-result.result c.in_ok-result.ensures.answer in
    omega (arith, more.1, c.messages-sent.ensures.sent, ap (λ q. length (world_of q).messages) c.in_ok-result.ensures.record)

pub returns-clause-stepped : goal.returns-clause-stepped
returns-clause-stepped g c = λ d es r.
    stepped g.R.Run.tests _ _ _ _ d es c.args.event c.in_ok-result.result c.events.result (length c.history-noted.result.now) c.messages-sent.result c.print_messages.new.text.items r
    c.in_ok-result.ensures.answer c.in_ok-result.ensures.record c.in_ok-result.ensures.setup c.events.ensures (ap length c.history-noted.ensures) c.messages-sent.ensures.sent
    (written_is c.events.result (length c.history-noted.result.now) c.messages-sent.result c.in_ok-result.result (world_of (g.R.Run.progress c.step.new.self)) c.clear.new.self.items c.print_happening.new.out.items _
    c.notes_from.result.now c.history.result.now c.clear.ensures.items c.in_ok-print_happening.ensures.ok c.notes_from.ensures c.history.ensures c.in_ok-print_messages.ensures)
