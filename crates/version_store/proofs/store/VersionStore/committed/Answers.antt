-- The writes of the row are taken in late, which comes to the same.
use Rattle.std.proofs.Common.{sym, ap, ◌∙◌}
use Rattle.std.proofs.lemmas.Result.{on_ok_weaker}
use Rattle.version_store.specs.Keeping.{better, part_write}
use Rattle.version_store.proofs.Marking.{best_of_marked}
use Rattle.version_store.proofs.store.VersionStore.committed.Goals as goal

pub returns : goal.returns
returns c = let row = c.args.row.now in
    on_ok_weaker c.take_row.result (λ taken rows stands rise there undecided. record {
      keeps = λ name. taken name
          ∙ ap (λ k. better k (part_write name row.entry.slot row.entry.payload)) (stands.keeps name)
          ∙ sym (best_of_marked rows rise row there undecided name);
    }) c.take_row.ensures
