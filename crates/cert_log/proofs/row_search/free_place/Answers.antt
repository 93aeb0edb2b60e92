-- No row has the slot, so the search finds where one would stand.
use Rattle.cert_log.proofs.Splitting.{not_free}
use Rattle.cert_log.proofs.row_search.free_place.Goals as goal

pub returns-in-Ok : goal.returns-in-Ok
returns-in-Ok c = absurd (not_free c.args.rows.now c.args.slot c.in-Ok.at c.requires.ascend c.in-Ok.ensures c.requires.free)
