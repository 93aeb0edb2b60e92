-- Entries and rows of a log.
use Rattle.std.specs.Prelude.{◌≡◌, Bool, true, not, ◌&&◌, ◌==◌, nat_le, List, [], ◌∷◌, map, IsTrue}
use Rattle.std.specs.List.{list_all, list_any}
use Rattle.tcs_terms.specs.declared.limits.TheConstants.{MAX_SLOT}
use Rattle.tcs_terms.specs.declared.ids.TxId.{TxId}
use Rattle.tcs_terms.specs.declared.logs.Row.{Row}
use Rattle.tcs_terms.specs.Order.{ascends}

-- whether two transactions are one
abbrev pub same_txn : TxId → TxId → Bool
same_txn a b = (a.home == b.home) && (a.seq == b.seq)

-- whether the same transactions stand in two lists
abbrev pub SameTxns : List TxId → List TxId → Type 0
SameTxns a b = (t : TxId) → list_any (same_txn t) a ≡ list_any (same_txn t) b

-- no transaction stands twice
abbrev pub txns_differ : List TxId → Bool
txns_differ [] = true
txns_differ (t ∷ ts) = not (list_any (same_txn t) ts) && txns_differ ts

-- rows as they may stand in a log and be sent: slots ascend within 1 to 4,096, transactions are distinct
pub record AreRows (rows : List Row) : Type 0 where
  pub slots_ascend : IsTrue (ascends (map (λ r. r.entry.slot) rows))
  pub slots : IsTrue (list_all (λ r. nat_le 1 r.entry.slot && nat_le r.entry.slot MAX_SLOT) rows)
  pub txns_differ : IsTrue (txns_differ (map (λ r. r.entry.txn) rows))
