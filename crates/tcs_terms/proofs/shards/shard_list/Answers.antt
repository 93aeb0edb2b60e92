use Rattle.std.proofs.Common.{◌≡◌, true, length, sym}
use Rattle.std.specs.Prelude.{◌==◌}
use Rattle.tcs_terms.proofs.shards.shard_list.Goals as goal

pub returns-then-is_empty-clause-list : goal.returns-then-is_empty-clause-list
returns-then-is_empty-clause-list c =
    let none : (length c.args.payload.now.ranges == 0) ≡ true = rw c.ranges-2.ensures.ranges at (sym c.if-is_empty.ensures) in
    rw none (rw c.reads-reads.ensures.reads at c.shards_read.ensures)
