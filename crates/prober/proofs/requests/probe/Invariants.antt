use Rattle.std.proofs.Common.{◌≡◌, ◌++◌, map, take}
use Rattle.tcs_terms.specs.declared.messages.Message.TheVariants.{Probe}
use Rattle.protocol.specs.Outcomes.{to}
use Rattle.prober.proofs.requests.probe.Given as goal

abbrev pub invariant-members : goal.invariant-members
invariant-members l = l.out.items ≡ l.fn.out.items ++ map (λ node. to node (Probe l.epoch)) (take l.member-index l.members)
