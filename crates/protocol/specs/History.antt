-- The history of a run: what clients began, took over and read, and what was decided, in the order of events.
use Rattle.std.specs.Prelude.{Bool, false, not, List, [], ◌∷◌, filter, filter_map, Option, Some, None, is_some, if◌then◌else◌}
use Rattle.tcs_terms.specs.declared.ids.TxId.{TxId}
use Rattle.tcs_terms.specs.declared.inputs.Note.{Note}
use Rattle.tcs_terms.specs.declared.inputs.Note.TheVariants.{Begin, Take, ReadValue, Decide}
use Rattle.tcs_terms.specs.declared.votes.Decision.{Decision}
use Rattle.tcs_terms.specs.declared.votes.Decision.TheVariants.{Commit, Abort}
use Rattle.tcs_terms.specs.Logs.{same_txn}
use Rattle.tcs_terms.specs.Payloads.{Accesses}

-- the payload with which a note begins the transaction, if it does
abbrev pub begins_with : TxId → Note → Option Accesses
begins_with txn (Begin other payload) = if same_txn other txn then Some payload else None
begins_with txn (Take other) = None
begins_with txn (ReadValue name version value) = None
begins_with txn (Decide other decision) = None

-- the first value, if there is one, else the later one
abbrev pub first_some : {X : Type 0} → Option X → Option X → Option X
first_some None later = later
first_some (Some x) later = Some x

-- the payload of a transaction: that with which it first began
abbrev pub payload_in : List Note → TxId → Option Accesses
payload_in [] txn = None
payload_in (n ∷ ns) txn = first_some (begins_with txn n) (payload_in ns txn)

-- whether a transaction has begun
abbrev pub has_begun : List Note → TxId → Bool
has_begun h txn = is_some (payload_in h txn)

-- whether a note is that the transaction was taken over
abbrev pub takes : TxId → Note → Bool
takes txn (Begin other payload) = false
takes txn (Take other) = same_txn other txn
takes txn (ReadValue name version value) = false
takes txn (Decide other decision) = false

-- the transaction that a note decides to commit, if it does
abbrev pub commits_by : TxId → Decision → Option TxId
commits_by txn Commit = Some txn
commits_by txn (Abort shard cause) = None

-- the transaction that a note decides to commit, if it is such a note
abbrev pub commit_in : Note → Option TxId
commit_in (Begin txn payload) = None
commit_in (Take txn) = None
commit_in (ReadValue name version value) = None
commit_in (Decide txn decision) = commits_by txn decision

-- the first of each transaction
abbrev pub first_of_each : List TxId → List TxId
first_of_each [] = []
first_of_each (t ∷ ts) = t ∷ filter (λ u. not (same_txn t u)) (first_of_each ts)

-- the committed transactions, in the order of their first decisions
abbrev pub order_of : List Note → List TxId
order_of h = first_of_each (filter_map commit_in h)

-- the payloads of these transactions
abbrev pub payloads_of : List Note → List TxId → List Accesses
payloads_of h txns = filter_map (λ t. payload_in h t) txns
