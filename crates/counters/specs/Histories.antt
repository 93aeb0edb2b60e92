-- What the counters of a history are worth.
use Rattle.std.specs.Prelude.{◌≡◌, ℕ, Bool, true, if◌then◌else◌, List, Some, None}
use Rattle.std.specs.List.{list_all}
use Rattle.std.specs.Map.{lookup}
use Rattle.tcs_terms.specs.declared.ids.TxId.{TxId}
use Rattle.tcs_terms.specs.declared.inputs.Note.{Note}
use Rattle.tcs_terms.specs.declared.inputs.Note.TheVariants.{Begin, Take, ReadValue, Decide}
use Rattle.tcs_terms.specs.declared.votes.Decision.{Decision}
use Rattle.tcs_terms.specs.declared.votes.Decision.TheVariants.{Commit, Abort}
use Rattle.tcs_terms.specs.Logs.{same_txn}
use Rattle.tcs_terms.specs.Payloads.{Accesses}
use Rattle.protocol.specs.History.{first_some, has_begun, order_of, payload_in, payloads_of}
use Rattle.counters.specs.declared.totals.Totals.{Totals}
use Rattle.counters.specs.Amounts.{total_of}
use Rattle.counters.specs.Sums.{AreSums}

-- the sum of the amounts by which the transactions of the order add to an object
abbrev pub total : List Note → List ℕ → ℕ
total h name = total_of (payloads_of h (order_of h)) name

-- whether a decision stands behind the beginning of its transaction, if it commits it
abbrev pub decided_after : List Note → TxId → Decision → Bool
decided_after past txn Commit = has_begun past txn
decided_after past txn (Abort shard cause) = true

-- whether a note may follow others: each decision to commit stands behind the beginning
abbrev pub may_follow : List Note → Note → Bool
may_follow past (Begin txn payload) = true
may_follow past (Take txn) = true
may_follow past (ReadValue name version value) = true
may_follow past (Decide txn decision) = decided_after past txn decision

-- with the payload of a transaction, unless it has one
abbrev pub KeepsFirst : List (TxId × Accesses) → List (TxId × Accesses) → TxId → Accesses → Type 0
KeepsFirst before after txn payload = (t : TxId)
    → lookup (same_txn t) after ≡ first_some (lookup (same_txn t) before) (if same_txn txn t then Some payload else None)

-- The totals of a history: the payload of each transaction that has begun, the order of commits, in which each has
-- begun, and the sums over their payloads.
pub record AreTotals (totals : Totals) (h : List Note) : Type 0 where
  pub begun : (t : TxId) → lookup (same_txn t) totals.begun.entries ≡ payload_in h t
  pub committed : totals.committed.keys ≡ order_of h
  pub after : list_all (has_begun h) (order_of h) ≡ true
  pub sums : AreSums totals.sums (payloads_of h (order_of h))
