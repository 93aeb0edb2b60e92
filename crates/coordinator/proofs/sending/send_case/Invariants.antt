use Rattle.std.proofs.Common.{◌≡◌, ◌++◌, take, length}
use Rattle.std.specs.Prelude.{flat_map}
use Rattle.protocol.specs.Cases.{send_part}
use Rattle.protocol.specs.Views.{view_of}
use Rattle.coordinator.proofs.sending.send_case.Given as goal

abbrev pub invariant-loop-part : goal.invariant-loop-part
invariant-loop-part l =
    l.out.items ≡ l.initial.out.items ++ flat_map (λ p. send_part (length l.views) l.txn l.case p.entry p.acks (view_of l.views p.shard)) (take l.part-index l.case.parts)
