-- The index has the slot of the transaction's row.
use Rattle.std.proofs.Common.{ap, ◌∙◌}
use Rattle.protocol.specs.Log.{row_at, row_of}
use Rattle.cert_log.proofs.Indexing.{row_at-indexed}
use Rattle.cert_log.proofs.log.CertLog.row_of.Goals as goal

pub returns-in-Some : goal.returns-in-Some
returns-in-Some g c =
    c.row_at.ensures ∙ ap (λ rows. row_at rows c.in-Some.slot.now) c.deref.ensures.value
    ∙ row_at-indexed c.self.inside.rows.items c.args.txn c.in-Some.slot.now c.self.invariant.are_rows.slots_ascend
    (c.in-Some.ensures.value ∙ c.self.invariant.is_index.finds c.args.txn)
    ∙ ap (λ rows. row_of rows c.args.txn) c.self.view_is
