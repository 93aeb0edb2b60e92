-- The row is found by its slot, where there is one.
use Rattle.std.proofs.Common.{subst, sym}
use Rattle.std.specs.Prelude.{◌==◌}
use Rattle.std.proofs.lemmas.Result.{on_ok_weaker}
use Rattle.tcs_terms.specs.declared.logs.Row.{Row}
use Rattle.protocol.specs.Log.{marked, mark_of}
use Rattle.version_store.specs.Keeping.{StandsFor}
use Rattle.replica.proofs.Marking.{contains_found, marked_nowhere, slot_found}
use Rattle.replica.proofs.telling.tell_at.Goals as goal

pub returns-in-None : goal.returns-in-None
returns-in-None g c =
    subst (λ rows. StandsFor c.args.versions.now rows) (sym (marked_nowhere (mark_of c.args.commit) c.args.slot c.args.log.now (sym c.in-None.ensures))) c.requires

pub returns-in-Some : goal.returns-in-Some
returns-in-Some g c =
    let log = c.args.log.now in
    let row = c.in-Some.row.now in
    on_ok_weaker c.tell.result (λ told.
    subst (λ slot. StandsFor c.tell.new.versions (marked log slot (mark_of c.args.commit))) (slot_found log c.args.slot row (sym c.in-Some.ensures))
    (told log c.requires c.rows-rows.ensures.are_rows.slots_ascend (contains_found (λ (r : Row). r.entry.slot == c.args.slot) log row (sym c.in-Some.ensures)))) c.tell.ensures
