-- Each row's transaction is new to the rows before it.
use Rattle.std.proofs.Common.{◌≡◌, cond, Some, arith}
use Rattle.std.proofs.Common.{subst}
use Rattle.std.specs.Map.{lookup}
use Rattle.tcs_terms.specs.declared.ids.TxId.{TxId}
use Rattle.tcs_terms.specs.declared.logs.Row.{Row}
use Rattle.tcs_terms.specs.Logs.{same_txn}
use Rattle.cert_log.proofs.Indexing.{index_next}
use Rattle.cert_log.proofs.standing.index_of.Goals as goal

pub loop-row-preserved : goal.loop-row-preserved
loop-row-preserved c =
    index_next c.loop-row.index.entries c.insert.new.self.entries c.args.rows.now c.loop-row.row-index c.row-item.result c.requires (omega arith) c.row-item.is c.loop-row.invariant
    (subst (λ (r : Row). (q : TxId) → lookup (same_txn q) c.insert.new.self.entries ≡ cond (same_txn r.entry.txn q) (Some r.entry.slot) (lookup (same_txn q) c.loop-row.index.entries))
    c.row.view_is (λ q. c.in_ok-insert.ensures.updates.0 q))
