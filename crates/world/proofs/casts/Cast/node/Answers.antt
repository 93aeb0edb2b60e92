use Rattle.std.proofs.Common.{sym, ap, ◌∙◌, arith}
use Rattle.protocol.specs.World.{node_of}
use Rattle.world.proofs.Casting.{node_at, no_node}
use Rattle.world.proofs.casts.Cast.node.Goals as goal

pub returns-then-name-eq-SERVICE : goal.returns-then-name-eq-SERVICE
returns-then-name-eq-SERVICE g c = λ named.
    let nodes = c.args.self.now.peers.nodes in
    sym (ap (node_of nodes) c.if-name-eq-SERVICE.true ∙ no_node nodes named)

pub returns : goal.returns
returns g c = λ named.
    rw (← c.self.view_is) (c.node.ensures ∙ sym (node_at c.self.inside.peers.nodes c.args.name (rw (← c.self.view_is) at named) (omega arith)))
