-- The slots ascend, so a binary search by slots finds the place.
use Rattle.std.proofs.Common.{rules}
use Rattle.std.proofs.lemmas.List.Sorted.{answers_always}
use Rattle.cert_log.proofs.Splitting.{placed}
use Rattle.cert_log.proofs.row_search.place_of.Goals as goal

pub returns : goal.returns
returns c =
    placed c.args.rows.now c.args.slot c.binary_search_by_key.result c.requires c.binary_search_by_key.ensures.bound
    (c.binary_search_by_key.ensures.position (λ r. r.entry.slot) (answers_always _ _ _ (λ f a r g called. search rules)))
