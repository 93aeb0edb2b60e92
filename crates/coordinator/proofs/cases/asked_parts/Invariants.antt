use Rattle.std.proofs.Common.{◌≡◌, map, take}
use Rattle.protocol.specs.Cases.{asked}
use Rattle.coordinator.proofs.cases.asked_parts.Given as goal

abbrev pub invariant-loop-shard : goal.invariant-loop-shard
invariant-loop-shard l = l.parts.items ≡ map asked (take l.shard-index l.shards)
