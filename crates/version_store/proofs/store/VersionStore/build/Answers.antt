-- One more row adds its writes if it is committed.
use Rattle.std.proofs.Common.{sym, ap, ◌∙◌}
use Rattle.version_store.specs.Keeping.{better, write_of}
use Rattle.version_store.proofs.BestWrites.{best_of_more}
use Rattle.version_store.proofs.store.VersionStore.build.Goals as goal

pub loop-row-preserved : goal.loop-row-preserved
loop-row-preserved c = let row = c.row-item.result in record {
  keeps = λ name. c.in_ok-take_marked.ensures name
      ∙ ap (λ k. better k (write_of row name)) (c.loop-row.invariant.keeps name)
      ∙ sym (best_of_more c.args.rows.now c.loop-row.row-index row c.loop-row-test.true c.row-item.is name);
}
