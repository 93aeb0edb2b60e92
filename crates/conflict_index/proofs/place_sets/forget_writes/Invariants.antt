use Rattle.std.proofs.Common.{take, not}
use Rattle.std.specs.Prelude.{IsTrue}
use Rattle.std.specs.List.{list_all}
use Rattle.std.specs.BTreeSet.{contains}
use Rattle.conflict_index.specs.Change.{ChangesSlot}
use Rattle.conflict_index.specs.Keeping.{place, place_cmp}
use Rattle.conflict_index.proofs.place_sets.forget_writes.Given as goal

abbrev pub invariant-loop-w : goal.invariant-loop-w
invariant-loop-w l = record {
  changes : ChangesSlot l.slot l.initial.places l.places;
  gone : IsTrue (list_all (λ part. not (contains place_cmp l.places (place part.name l.version l.slot))) (take l.w-index l.parts));
}
