-- A set with one more place has grown by it alone.
use Rattle.conflict_index.specs.Keeping.{place_cmp}
use Rattle.conflict_index.proofs.Growing.{grows_with, gains_with}
use Rattle.conflict_index.proofs.place_sets.keep.Goals as goal

pub returns-clause-grows : goal.returns-clause-grows
returns-clause-grows c = grows_with place_cmp _ _ c.args.place c.in_ok-insert.ensures.updates

pub returns-clause-gains : goal.returns-clause-gains
returns-clause-gains c = gains_with c.args.place _ _ c.in_ok-insert.ensures.updates
