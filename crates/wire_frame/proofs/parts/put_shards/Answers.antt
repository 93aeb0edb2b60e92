use Rattle.std.proofs.Common.{arith}
use Rattle.wire_frame.proofs.Counts.{few_shards}
use Rattle.wire_frame.proofs.parts.put_shards.Goals as goal

pub put_counted-requires : goal.put_counted-requires
put_counted-requires c = rw c.list.ensures.list (omega (arith, few_shards c.args.shards.now c.list.ensures.set))
