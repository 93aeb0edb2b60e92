-- What is kept beside pieces.
use Rattle.std.specs.Prelude.{List, map, IsTrue}
use Rattle.tcs_terms.specs.declared.ids.TxId.{TxId}
use Rattle.tcs_terms.specs.Logs.{AreRows, SameTxns}
use Rattle.tcs_terms.specs.Order.{ascends}
use Rattle.protocol.specs.Records.{Piece}
use Rattle.protocol.specs.Pieces.{rows_of}

-- the pieces stand by number, their rows may stand together in a log, and these are the transactions of the rows
pub record KeepsRows (pieces : List Piece) (keys : List TxId) : Type 0 where
  pub numbers : IsTrue (ascends (map (λ p. p.number) pieces))
  pub rows : AreRows (rows_of pieces)
  pub txns : SameTxns keys (map (λ r. r.entry.txn) (rows_of pieces))
