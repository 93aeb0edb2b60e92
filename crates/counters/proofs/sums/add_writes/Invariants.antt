use Rattle.std.proofs.Common.{take}
use Rattle.counters.specs.Sums.{AddsWrites}
use Rattle.counters.proofs.sums.add_writes.Given as goal

abbrev pub invariant-loop-write : goal.invariant-loop-write
invariant-loop-write l = AddsWrites l.initial.sums l.sums (take l.write-index l.writes)
