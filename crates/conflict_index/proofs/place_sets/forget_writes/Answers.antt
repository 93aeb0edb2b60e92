-- One more part is gone, and all before it stay so.
use Rattle.std.proofs.Common.{arith}
use Rattle.conflict_index.specs.Change.{ChangesSlot}
use Rattle.conflict_index.specs.Keeping.{place}
use Rattle.conflict_index.proofs.Growing.{changes_then, gone_more}
use Rattle.conflict_index.proofs.place_sets.forget_writes.Goals as goal

pub loop-w-preserved : goal.loop-w-preserved
loop-w-preserved c =
    let changes : ChangesSlot c.args.slot c.loop-w.places c.forget.new.places = rw c.place_of.ensures at c.forget.ensures.changes in
    record {
      changes = changes_then c.args.slot _ _ _ c.loop-w.invariant.changes changes;
      gone = gone_more (λ x. place x.name c.args.version c.args.slot) c.args.slot _ _ changes c.args.parts.now c.loop-w.w-index c.w-item.result
          (omega arith) c.loop-w.invariant.gone c.w-item.is (rw c.place_of.ensures at c.forget.ensures.gone);
    }
