use Rattle.std.proofs.Common.{◌∙◌, ap}
use Rattle.std.specs.Prelude.{is_some}
use Rattle.std.specs.Map.{lookup}
use Rattle.tcs_terms.specs.Logs.{same_txn}
use Rattle.coordinator.proofs.Slots.{has_place}
use Rattle.coordinator.proofs.open_cases.OpenCases.has.Goals as goal

pub returns : goal.returns
returns c =
    c.contains_key.ensures ∙ has_place c.self.inside.places.entries c.self.inside.slots.items c.self.invariant c.args.txn
    ∙ ap (λ cases. is_some (lookup (same_txn c.args.txn) cases)) c.self.view_is
