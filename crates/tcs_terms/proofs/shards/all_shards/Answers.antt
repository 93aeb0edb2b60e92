use Rattle.std.proofs.Common.{arith}
use Rattle.tcs_terms.proofs.OrderLaws.{range_grows}
use Rattle.tcs_terms.proofs.shards.all_shards.Goals as goal

pub loop-shard-preserved : goal.loop-shard-preserved
loop-shard-preserved c = range_grows c.loop-shard.shard c.loop-shard.list.items c.push.new.self.items (omega arith) c.loop-shard.invariant c.in_ok-push.ensures.items
