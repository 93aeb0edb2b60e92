use Rattle.std.proofs.Common.{◌≡◌, filter, take}
use Rattle.tcs_terms.specs.Shards.{lies_in}
use Rattle.tcs_terms.proofs.shards.writes_in.Given as goal

abbrev pub invariant-loop-write : goal.invariant-loop-write
invariant-loop-write l = l.part.items ≡ filter (λ p. lies_in l.n l.shard p.name) (take l.write-index l.writes)
