-- What no longer counts is forgotten, and the index stands for the rows with the mark.
use Rattle.std.proofs.Common.{refl}
use Rattle.conflict_index.proofs.RowChanges.{index_marked}
use Rattle.conflict_index.proofs.index.ConflictIndexVoteGuard.decided.Goals as goal

pub returns : goal.returns
returns g c = λ rows index there undecided.
    index_marked _ _ _ _ c.args.row.now.entry.slot c.args.mark c.forget_row.ensures.others rows index c.args.row.now there refl undecided
