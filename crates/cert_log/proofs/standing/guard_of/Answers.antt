-- Each row stands above those before it, so a guard that is told of it stands for one row more.
use Rattle.std.proofs.Common.{◌<◌, length, take, arith, subst}
use Rattle.cert_log.proofs.Indexing.{put_next, next_is_free}
use Rattle.cert_log.proofs.standing.guard_of.Goals as goal

pub loop-row-preserved : goal.loop-row-preserved
loop-row-preserved g c =
    let within : c.loop-row.row-index < length c.args.rows.now = omega arith in
    subst (λ rows. g.G.VoteGuard.StandsFor c.prepared.new.self rows)
    (put_next c.args.rows.now c.loop-row.row-index c.row-item.result c.requires within c.row-item.is)
    (c.in_ok-prepared.ensures.put (take c.loop-row.row-index c.args.rows.now) c.loop-row.invariant
    (next_is_free c.args.rows.now c.loop-row.row-index c.row-item.result c.requires within c.row-item.is))
