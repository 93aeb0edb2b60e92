use Rattle.std.proofs.Common.{◌++◌, map, take}
use Rattle.tcs_terms.specs.Logs.{SameTxns}
use Rattle.state_transfer.proofs.kept_pieces.remember.Given as goal

abbrev pub invariant-loop-row : goal.invariant-loop-row
invariant-loop-row l = SameTxns l.txns.keys (map (λ r. r.entry.txn) (take l.row-index l.rows) ++ l.initial.txns.keys)
