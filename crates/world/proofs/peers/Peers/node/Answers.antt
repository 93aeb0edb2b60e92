use Rattle.std.proofs.Common.{ℕ, ◌-◌, List, sym, ap, ◌∙◌}
use Rattle.std.specs.Prelude.{slice_get}
use Rattle.std.specs.Option.{option_map}
use Rattle.std.proofs.lemmas.Option.{slice_get-map}
use Rattle.node_core.specs.State.{NodeState}
use Rattle.world.proofs.peers.Peers.node.Goals as goal

pub returns : goal.returns
returns g c =
    let f = λ (n : NodeState). n.kept in
    let i = c.args.name - 1 in
    rw (← c.self.view_is) (ap (option_map f) (c.node_at.ensures ∙ ap (λ (ns : List NodeState). slice_get ns (c.from.result - 1)) c.deref.ensures.value
    ∙ ap (λ (n : ℕ). slice_get c.self.inside.nodes.items (n - 1)) c.from.ensures)
    ∙ sym (slice_get-map f c.self.inside.nodes.items i))
