use Rattle.std.proofs.Common.{◌∙◌, ap, length}
use Rattle.coordinator.proofs.Slots.{how_many}
use Rattle.coordinator.proofs.open_cases.OpenCases.len.Goals as goal

pub returns : goal.returns
returns c = c.len.ensures.len ∙ how_many c.self.inside.places.entries c.self.inside.slots.items c.self.invariant ∙ ap length c.self.view_is
