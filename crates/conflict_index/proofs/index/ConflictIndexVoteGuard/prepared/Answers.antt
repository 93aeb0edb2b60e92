-- A row that is kept is put in its place; after an error more may be kept than before.
use Rattle.conflict_index.proofs.RowChanges.{index_put, index_more, on_err_from}
use Rattle.std.proofs.lemmas.Result.{on_ok_weaker}
use Rattle.conflict_index.proofs.index.ConflictIndexVoteGuard.prepared.Goals as goal

pub returns-clause-put : goal.returns-clause-put
returns-clause-put g c =
    let kept = c.keep_row.ensures in
    on_ok_weaker c.keep_row.result (λ keeps rows index free.
    index_put _ _ _ rows (index_more _ _ _ _ kept.more rows index) c.args.row.now kept.fits keeps) kept.of_row

pub returns-clause-kept : goal.returns-clause-kept
returns-clause-kept g c =
    let kept = c.keep_row.ensures in
    on_err_from c.keep_row.result (λ rows index. index_more _ _ _ _ kept.more rows index)
