-- One more part is kept where it counts, and all before it stay so.
use Rattle.std.proofs.Common.{arith}
use Rattle.conflict_index.specs.Keeping.{place, place_cmp}
use Rattle.conflict_index.proofs.Growing.{grows_then, counted_more}
use Rattle.conflict_index.proofs.place_sets.keep_reads.Goals as goal

pub loop-r-preserved : goal.loop-r-preserved
loop-r-preserved g c = record {
  grows = grows_then place_cmp _ _ _ c.loop-r.invariant.grows c.in_ok-keep_counted.ensures.grows;
  kept = counted_more (λ x. g.C.BySight.counts c.args.payload.now x.name) (λ x. place x.name c.args.version c.args.slot) _ _
      c.in_ok-keep_counted.ensures.grows c.args.parts.now c.loop-r.r-index c.r-item.result
      (omega arith) c.loop-r.invariant.kept c.r-item.is c.in_ok-keep_counted.ensures.kept;
}
