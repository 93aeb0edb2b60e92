use Rattle.std.proofs.Common.{◌≡◌, ◌++◌, map}
use Rattle.std.specs.List.{range_with_len}
use Rattle.tcs_terms.specs.declared.messages.Message.TheVariants.{ConfigChange}
use Rattle.protocol.specs.Outcomes.{to}
use Rattle.config_service.proofs.sending.tell_nodes.Given as goal

abbrev pub invariant-loop-before : goal.invariant-loop-before
invariant-loop-before l = l.out.items ≡ l.initial.out.items ++ map (λ node. to node (ConfigChange l.config)) (range_with_len 1 l.before)
