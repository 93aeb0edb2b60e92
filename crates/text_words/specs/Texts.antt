-- Transactions in a text.
use Rattle.std.specs.Prelude.{ℕ, List, ◌++◌, codes, decimal}
use Rattle.tcs_terms.specs.declared.ids.TxId.{TxId}

-- a transaction: the node that made it, a dot, its number there
abbrev pub txn_text : TxId → List ℕ
txn_text t = decimal t.home ++ (codes "." ++ decimal t.seq)
