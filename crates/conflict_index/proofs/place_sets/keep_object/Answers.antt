-- A set with one more object has grown.
use Rattle.conflict_index.specs.Keeping.{object_cmp}
use Rattle.conflict_index.proofs.Growing.{grows_with}
use Rattle.conflict_index.proofs.place_sets.keep_object.Goals as goal

pub returns-clause-grows : goal.returns-clause-grows
returns-clause-grows c = grows_with object_cmp _ _ c.args.object c.in_ok-insert.ensures.updates
