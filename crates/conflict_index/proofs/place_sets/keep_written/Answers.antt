-- One more part is kept, and all before it stay so.
use Rattle.std.proofs.Common.{arith}
use Rattle.conflict_index.specs.Keeping.{place, place_cmp}
use Rattle.conflict_index.proofs.Growing.{grows_then, kept_more}
use Rattle.conflict_index.proofs.place_sets.keep_written.Goals as goal

pub loop-w-preserved : goal.loop-w-preserved
loop-w-preserved c = record {
  objects = λ are. c.in_ok-keep_with_object.ensures.objects (c.loop-w.invariant.objects are);
  grows = grows_then place_cmp _ _ _ c.loop-w.invariant.grows c.in_ok-keep_with_object.ensures.grows;
  kept = kept_more (λ x. place x.name c.args.version c.args.slot) _ _ c.in_ok-keep_with_object.ensures.grows c.args.parts.now c.loop-w.w-index
      c.w-item.result (omega arith) c.loop-w.invariant.kept c.w-item.is (rw c.place_of.ensures at c.in_ok-keep_with_object.ensures.kept);
}
