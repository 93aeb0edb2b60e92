-- The slot after the last one is free, and an entry there is put last.
use Rattle.std.proofs.Common.{ap, ◌∙◌, refl}
use Rattle.std.specs.Prelude.{is_some}
use Rattle.protocol.specs.Log.{row_at, put_entry, new_entry}
use Rattle.cert_log.specs.Preparing.{rows_by}
use Rattle.cert_log.proofs.Indexing.{next_free, put_new}
use Rattle.cert_log.proofs.log.CertLog.prepare.Goals as goal

pub put-requires-clause-free : goal.put-requires-clause-free
put-requires-clause-free g c =
    ap (λ rows. is_some (row_at rows c.in_ok-entry.entry.slot)) c.new_entry.ensures.same
    ∙ ap (λ entry. is_some (row_at c.args.self.now entry.slot)) c.in_ok-entry.ensures.entry
    ∙ next_free c.args.self.now c.new_entry.ensures.are_rows.slots_ascend

pub returns-clause-rows : goal.returns-clause-rows
returns-clause-rows g c =
    let entry = new_entry g.G.Rule.Certifier.tests c.args.self.now c.args.txn c.args.shards c.args.part in
    c.in_ok-put.ensures.rows ∙ ap (λ rows. put_entry rows c.in_ok-entry.entry) c.new_entry.ensures.same
    ∙ ap (λ e. put_entry c.args.self.now e) c.in_ok-entry.ensures.entry
    ∙ put_new c.args.self.now entry c.new_entry.ensures.are_rows.slots_ascend refl
    ∙ ap (λ found. rows_by found c.args.self.now entry) c.in_default.ensures
