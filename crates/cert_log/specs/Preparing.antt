-- What a leader makes of a transaction.
use Rattle.std.specs.Prelude.{ℕ, Bool, false, List, [], ◌∷◌, ◌++◌, Option, Some, None}
use Rattle.tcs_terms.specs.declared.ids.TxId.{TxId}
use Rattle.tcs_terms.specs.declared.logs.Row.{Row}
use Rattle.tcs_terms.specs.Payloads.{Accesses}
use Rattle.tcs_terms.specs.Preparations.{Preparation}
use Rattle.tcs_laws.specs.Certification.{Tests}
use Rattle.protocol.specs.Log.{row_of, is_full, new_entry, undecided}

-- a known transaction has the entry of its row, and another one gets a new entry
abbrev pub entry_by : Option Row → Preparation → Preparation
entry_by None entry = entry
entry_by (Some row) entry = row.entry

abbrev pub rows_by : Option Row → List Row → Preparation → List Row
rows_by None rows entry = rows ++ undecided entry ∷ []
rows_by (Some row) rows entry = rows

abbrev pub no_room_by : Option Row → List Row → Bool
no_room_by None rows = is_full rows
no_room_by (Some row) rows = false

-- the entry of a transaction: the one that the log keeps, else a new one
abbrev pub prepared_entry : Tests → List Row → TxId → List ℕ → Option Accesses → Preparation
prepared_entry tests rows txn shards part = entry_by (row_of rows txn) (new_entry tests rows txn shards part)

-- the rows with that entry: a new one is appended, undecided
abbrev pub prepared_rows : Tests → List Row → TxId → List ℕ → Option Accesses → List Row
prepared_rows tests rows txn shards part = rows_by (row_of rows txn) rows (new_entry tests rows txn shards part)

-- whether the transaction is new and no slot is left
abbrev pub finds_no_room : List Row → TxId → Bool
finds_no_room rows txn = no_room_by (row_of rows txn) rows
