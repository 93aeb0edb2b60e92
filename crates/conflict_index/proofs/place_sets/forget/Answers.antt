-- A set with one place less changes at its slot alone.
use Rattle.conflict_index.proofs.Growing.{changes_without}
use Rattle.conflict_index.proofs.place_sets.forget.Goals as goal

pub returns-clause-changes : goal.returns-clause-changes
returns-clause-changes c = changes_without c.args.place _ _ c.remove.ensures.updates
