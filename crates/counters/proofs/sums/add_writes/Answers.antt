-- One write more is added.
use Rattle.std.proofs.Common.{◌<◌, length, arith}
use Rattle.counters.proofs.Adding.{adds_none, adds_more}
use Rattle.counters.proofs.sums.add_writes.Goals as goal

pub loop-write-init : goal.loop-write-init
loop-write-init c = adds_none c.args.sums.now

pub loop-write-preserved : goal.loop-write-preserved
loop-write-preserved c =
    let within : c.loop-write.write-index < length c.args.writes.now = omega arith in
    adds_more c.args.sums.now c.loop-write.sums c.add_write.new.sums c.args.writes.now c.loop-write.write-index c.write-item.result
    c.requires within c.write-item.is c.loop-write.invariant c.in_ok-add_write.ensures
