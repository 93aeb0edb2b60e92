use Rattle.std.proofs.Common.{◌≡◌, ◌++◌, take, map}
use Rattle.tcs_terms.specs.declared.messages.Message.TheVariants.{DecisionFor}
use Rattle.protocol.specs.Outcomes.{to}
use Rattle.coordinator.proofs.deciding.push_decisions.Given as goal

abbrev pub invariant-loop-node : goal.invariant-loop-node
invariant-loop-node l = l.out.items ≡ l.initial.out.items ++ map (λ node. to node (DecisionFor l.epoch l.slot l.txn l.commit)) (take l.node-index l.node-items)
