-- A row is kept once its writes are, and then what is kept of live rows.
use Rattle.std.proofs.Common.{◌∙◌}
use Rattle.conflict_index.proofs.RowChanges.{keeps_now}
use Rattle.conflict_index.proofs.row_sets.keep_payload.Goals as goal

pub returns-clause-of_row : goal.returns-clause-of_row
returns-clause-of_row g c =
    keeps_now g.C.BySight.counts g.C.BySight.COUNTS_UNWRITTEN c.keep_counted_writes.new.kept c.keep_live.new.kept c.keep_live.ensures.more
    c.args.mark c.args.vote c.args.slot c.args.payload.now c.writes.ensures.payload
    (λ now. rw (c.version-version.ensures.version, c.writes.ensures.writes) at (c.in_ok-keep_counted_writes.ensures.writes (c.writes_count.ensures ∙ now)))
    (λ now. c.in_ok-keep_live.ensures.writers (c.is_live.ensures ∙ now))
    (λ now. c.in_ok-keep_live.ensures.readers (c.is_live.ensures ∙ now))
    (λ now. c.in_ok-keep_live.ensures.ranged (c.is_live.ensures ∙ now))
