use Rattle.std.proofs.Common.{◌≡◌, ◌-◌, filter}
use Rattle.std.specs.List.{list_any, range_with_len}
use Rattle.tcs_terms.specs.Shards.{lies_in}
use Rattle.tcs_terms.proofs.shards.shards_read.Given as goal

abbrev pub invariant-loop-shard : goal.invariant-loop-shard
invariant-loop-shard l = l.list.items ≡ filter (λ shard. list_any (λ r. lies_in l.n shard r.name) l.reads) (range_with_len 1 (l.shard - 1))
