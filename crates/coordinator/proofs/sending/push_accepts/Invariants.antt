use Rattle.std.proofs.Common.{◌≡◌, ◌++◌, take, map, filter, not}
use Rattle.std.specs.Prelude.{◌==◌}
use Rattle.tcs_terms.specs.declared.messages.Message.TheVariants.{Accept}
use Rattle.tcs_terms.specs.Places.{is_among}
use Rattle.protocol.specs.Outcomes.{to}
use Rattle.coordinator.proofs.sending.push_accepts.Given as goal

abbrev pub invariant-loop-node : goal.invariant-loop-node
invariant-loop-node l =
    l.out.items ≡ l.initial.out.items ++ map (λ node. to node (Accept l.epoch l.entry))
    (filter (λ node. not (is_among l.acks node)) (filter (λ m. not (m == l.leader)) (take l.node-index l.node-items)))
