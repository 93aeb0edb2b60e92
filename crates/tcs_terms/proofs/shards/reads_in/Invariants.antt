use Rattle.std.proofs.Common.{◌≡◌, filter, take}
use Rattle.tcs_terms.specs.Shards.{lies_in}
use Rattle.tcs_terms.proofs.shards.reads_in.Given as goal

abbrev pub invariant-loop-read : goal.invariant-loop-read
invariant-loop-read l = l.part.items ≡ filter (λ p. lies_in l.n l.shard p.name) (take l.read-index l.reads)
