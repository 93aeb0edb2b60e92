-- The rows of a log: what a leader appends, what a follower puts, and marks.
use Rattle.std.specs.Prelude.{ℕ, ◌+◌, Bool, true, false, not, ◌&&◌, ◌||◌, ◌==◌, nat_lt, nat_le, if◌then◌else◌, List, ◌∷◌, ◌++◌, filter, find, map, Option, Some, None, is_some}
use Rattle.std.specs.List.{last_or}
use Rattle.tcs_terms.specs.declared.limits.TheConstants.{MAX_SLOT}
use Rattle.tcs_terms.specs.declared.ids.TxId.{TxId}
use Rattle.tcs_terms.specs.declared.logs.Row.{Row}
use Rattle.tcs_terms.specs.declared.logs.Mark.{Mark}
use Rattle.tcs_terms.specs.declared.logs.Mark.TheVariants.{Undecided, Committed, Aborted}
use Rattle.tcs_terms.specs.declared.votes.Vote.{Vote}
use Rattle.tcs_terms.specs.declared.votes.Vote.TheVariants.{Lost}
use Rattle.tcs_terms.specs.Logs.{same_txn}
use Rattle.tcs_terms.specs.Payloads.{Accesses}
use Rattle.tcs_terms.specs.Preparations.{Preparation}
use Rattle.tcs_laws.specs.Certification.{Tests}
use Rattle.tcs_laws.specs.Votes.{vote_on}

-- the row of a transaction
abbrev pub row_of : List Row → TxId → Option Row
row_of rows txn = find (λ r. same_txn r.entry.txn txn) rows

-- the row of a slot
abbrev pub row_at : List Row → ℕ → Option Row
row_at rows slot = find (λ r. r.entry.slot == slot) rows

-- the slot of a row, 0 where there is none
abbrev pub slot_or_zero : Option Row → ℕ
slot_or_zero None = 0
slot_or_zero (Some r) = r.entry.slot

-- the greatest slot, 0 in an empty log
abbrev pub last_slot : List Row → ℕ
last_slot rows = slot_or_zero (last_or None rows)

-- no slot is left for a new entry
abbrev pub is_full : List Row → Bool
is_full rows = nat_le MAX_SLOT (last_slot rows)

-- the vote on what is there: a preparation without payload is lost
abbrev pub vote_on_part : Tests → List Row → Option Accesses → Vote
vote_on_part tests rows None = Lost
vote_on_part tests rows (Some part) = vote_on tests rows part

-- the entry that a leader makes: at the next slot, with its vote over the rows before it
abbrev pub new_entry : Tests → List Row → TxId → List ℕ → Option Accesses → Preparation
new_entry tests rows txn shards part =
    record { slot = last_slot rows + 1; txn = txn; shards = shards; payload = part; vote = vote_on_part tests rows part }

-- an entry as it enters a log
abbrev pub undecided : Preparation → Row
undecided entry = record { entry = entry; mark = Undecided }

-- the rows with an entry put in its place among the slots
abbrev pub put_entry : List Row → Preparation → List Row
put_entry rows entry =
    filter (λ r. nat_lt r.entry.slot entry.slot) rows ++ undecided entry ∷ filter (λ r. nat_lt entry.slot r.entry.slot) rows

-- whether a row is of the transaction
abbrev pub holds_txn : Option Row → TxId → Bool
holds_txn None txn = false
holds_txn (Some r) txn = same_txn r.entry.txn txn

-- whether the slot holds the transaction
abbrev pub has_at : List Row → ℕ → TxId → Bool
has_at rows slot txn = holds_txn (row_at rows slot) txn

-- whether an entry can't be put: its slot holds another transaction, or is free while its transaction stands elsewhere
abbrev pub is_taken : List Row → Preparation → Bool
is_taken rows entry =
    not (has_at rows entry.slot entry.txn) && (is_some (row_at rows entry.slot) || is_some (row_of rows entry.txn))

-- what a follower's rows come to: an entry that is there already stays as it is
abbrev pub accepted : List Row → Preparation → List Row
accepted rows entry = if has_at rows entry.slot entry.txn then rows else put_entry rows entry

-- a mark is set once: the first one stays
abbrev pub first_mark : Mark → Mark → Mark
first_mark Undecided mark = mark
first_mark Committed mark = Committed
first_mark Aborted mark = Aborted

-- a row with a mark, unless it has one
abbrev pub set_mark : Mark → Row → Row
set_mark mark row = record { entry = row.entry; mark = first_mark row.mark mark }

-- the rows with the mark set at a slot
abbrev pub marked : List Row → ℕ → Mark → List Row
marked rows slot mark = map (λ r. if r.entry.slot == slot then set_mark mark r else r) rows

-- the mark of a decision to commit, or to abort
abbrev pub mark_of : Bool → Mark
mark_of true = Committed
mark_of false = Aborted
