use Rattle.std.proofs.Common.{take}
use Rattle.std.specs.Prelude.{IsTrue}
use Rattle.conflict_index.specs.Change.{Grows}
use Rattle.conflict_index.specs.Keeping.{place, place_cmp, all_kept}
use Rattle.conflict_index.proofs.place_sets.keep_writes.Given as goal

abbrev pub invariant-loop-w : goal.invariant-loop-w
invariant-loop-w l = record {
  grows : Grows place_cmp l.initial.places l.places;
  kept : IsTrue (all_kept l.places (λ part. place part.name l.version l.slot) (take l.w-index l.parts));
}
