use Rattle.state_transfer.proofs.SentMessages.{piece_more}
use Rattle.state_transfer.proofs.sending.send_pieces.Goals as goal

pub loop-before-preserved : goal.loop-before-preserved
loop-before-preserved c =
    piece_more c.args.config.now c.args.rows.now c.args.node c.loop-before.before c.args.out.now.items c.loop-before.out.items c.push.new.self.items c.in_ok-message.message
    c.loop-before.invariant c.in_ok-message.ensures c.in_ok-push.ensures.items
