use Rattle.std.proofs.Common.{not, ◌||◌, take}
use Rattle.std.specs.Prelude.{IsTrue}
use Rattle.std.specs.List.{list_all}
use Rattle.std.specs.BTreeSet.{contains}
use Rattle.conflict_index.specs.Change.{Grows}
use Rattle.conflict_index.specs.Keeping.{place, place_cmp}
use Rattle.conflict_index.proofs.place_sets.keep_reads.Given as goal

abbrev pub invariant-loop-r : goal.invariant-loop-r
invariant-loop-r g l = record {
  grows : Grows place_cmp l.initial.places l.places;
  kept : IsTrue (list_all (λ part. not (g.C.BySight.counts l.payload part.name)
      || contains place_cmp l.places (place part.name l.version l.slot)) (take l.r-index l.parts));
}
