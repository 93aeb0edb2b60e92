-- The guard stands for the rows with the one that is put last.
use Rattle.std.proofs.Common.{List, ◌∙◌, sym, subst}
use Rattle.tcs_terms.specs.declared.logs.Row.{Row}
use Rattle.conflict_index.proofs.LastRow.{put_last, free_last, below_next}
use Rattle.benchmarks.proofs.votes.full_log.put.Goals as goal

pub returns-clause-stands : goal.returns-clause-stands
returns-clause-stands g c =
    let rows : List Row = c.args.rows.now.items in
    subst (λ rows. g.G.VoteGuard.StandsFor c.prepared.new.self rows)
    (put_last rows c.args.row c.requires.above ∙ sym c.in_ok-push.ensures.items)
    (c.in_ok-prepared.ensures.put rows c.requires.stands (free_last c.args.row.entry.slot rows c.requires.above))

pub returns-clause-below : goal.returns-clause-below
returns-clause-below g c next above =
    rw c.in_ok-push.ensures.items (below_next next c.args.rows.now.items c.args.row c.requires.above above)
