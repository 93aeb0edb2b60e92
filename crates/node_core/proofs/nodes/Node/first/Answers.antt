use Rattle.std.proofs.Common.{sym, subst}
use Rattle.protocol.specs.Records.{NodeRecord}
use Rattle.node_core.specs.Soundness.{IsKept}
use Rattle.node_core.proofs.Beginning.{first_kept}
use Rattle.node_core.proofs.nodes.Node.first.Goals as goal

pub invariant_of-result : goal.invariant_of-result
invariant_of-result g c =
    subst (λ (n : NodeRecord). IsKept n) (sym c.in_ok-first.ensures)
    (first_kept c.args.configs.items c.args.name c.args.shard c.requires.name c.requires.shard c.requires.views c.requires.configs)
