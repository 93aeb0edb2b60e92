use Rattle.std.proofs.Common.{arith}
use Rattle.quorum_config.proofs.MessageLines.{one_more_message}
use Rattle.quorum_config.proofs.printing.put_messages.Goals as goal

pub messages-preserved : goal.messages-preserved
messages-preserved c = record {
  written = one_more_message c.args.out.now.items c.put_message.new.out.items c.messages.out.items c.args.messages.now c.messages.m-index c.args.first c.m-item.result c.messages.number c.messages-test.true c.m-item.is
      c.messages.invariant.counted c.messages.invariant.written c.in_ok-put_message.ensures;
  counted = omega arith;
}
