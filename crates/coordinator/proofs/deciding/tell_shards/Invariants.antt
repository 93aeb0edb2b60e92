use Rattle.std.proofs.Common.{◌≡◌, ◌++◌, take}
use Rattle.std.specs.Prelude.{flat_map}
use Rattle.protocol.specs.Cases.{tell_members}
use Rattle.protocol.specs.Views.{view_of}
use Rattle.coordinator.proofs.deciding.tell_shards.Given as goal

abbrev pub invariant-loop-part : goal.invariant-loop-part
invariant-loop-part l =
    l.out.items ≡ l.initial.out.items ++ flat_map (λ p. tell_members l.txn l.commit p.entry (view_of l.views p.shard)) (take l.part-index l.parts)
