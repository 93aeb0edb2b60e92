use Rattle.std.proofs.Common.{take}
use Rattle.judge.specs.Newest.{KeepsWrites}
use Rattle.judge.proofs.newest.keep_writes.Given as goal

abbrev pub invariant-loop-write : goal.invariant-loop-write
invariant-loop-write l = KeepsWrites l.initial.newest l.newest l.payload (take l.write-index l.parts)
