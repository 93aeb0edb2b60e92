use Rattle.std.proofs.Common.{◌∙◌}
use Rattle.node_core.proofs.nodes.Node.outcome_of.Goals as goal

pub returns : goal.returns
returns g c = rw (← c.self.view_is, ← c.self-inside.view_is) (c.copied.ensures ∙ c.get.ensures.value)
