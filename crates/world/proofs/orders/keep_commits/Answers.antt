use Rattle.std.proofs.Common.{sym, ap, ◌∙◌}
use Rattle.protocol.specs.History.{commit_in}
use Rattle.protocol_laws.specs.Growth.{with_commit}
use Rattle.world.proofs.CommitOrder.{order-next}
use Rattle.world.proofs.orders.keep_commits.Goals as goal

pub loop-note-preserved : goal.loop-note-preserved
loop-note-preserved c =
    c.in_ok-keep_commit.ensures ∙ ap (λ order. with_commit order (commit_in c.note-item.result)) c.loop-note.invariant
    ∙ sym (order-next _ c.args.notes.now c.loop-note.note-index c.note-item.result c.loop-note-test.true c.note-item.is)
