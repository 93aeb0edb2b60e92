-- The object is kept before its place is.
use Rattle.std.proofs.Common.{subst}
use Rattle.std.specs.Prelude.{IsTrue}
use Rattle.std.specs.BTreeSet.{contains}
use Rattle.conflict_index.specs.Keeping.{object_cmp}
use Rattle.conflict_index.proofs.Growing.{objects_with}
use Rattle.conflict_index.proofs.place_sets.keep_with_object.Goals as goal

pub returns-clause-objects : goal.returns-clause-objects
returns-clause-objects c = λ are.
    let kept = subst (λ o. IsTrue (contains object_cmp c.keep_object.new.objects o)) c.again.ensures c.in_ok-keep_object.ensures.kept in
    objects_with _ _ _ _ c.args.place c.in_ok-keep_object.ensures.grows kept c.keep.ensures.gains are
