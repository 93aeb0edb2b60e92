use Rattle.std.proofs.Common.{arith, refl}
use Rattle.replay_core.proofs.Messages.{framed, no_gap, posted_more}
use Rattle.replay_core.proofs.stepping.print_messages.Goals as goal

pub print_message-requires : goal.print_message-requires
print_message-requires g c = framed _ _ _ _ c.in-Some.ensures

pub unreachable-requires : goal.unreachable-requires
unreachable-requires g c =
    no_gap _ c.loop-number.number (omega (arith, c.requires.positive, c.loop-number.auto.number)) (omega (arith, c.loop-number-test.true, c.messages-number-end.ensures.sent)) c.in-None.ensures

pub loop-number-preserved : goal.loop-number-preserved
loop-number-preserved g c =
    posted_more c.args.first c.loop-number.number _ _ _ _ _ _ _ _ c.requires.positive c.loop-number.auto.number (omega (arith, c.loop-number-test.true, c.messages-number-end.ensures.sent)) refl
    c.in-Some.ensures c.loop-number.invariant c.in_ok-print_message-in-Some.ensures.ok
