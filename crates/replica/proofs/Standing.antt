-- What a store stands for once a log has one more row.
use Rattle.std.proofs.Common.{◌≡◌, ℕ, List, Some, None, Option, Result, Ok, Err, OnOk, OnErr, sym, subst}
use Rattle.tcs_terms.specs.declared.ids.TxId.{TxId}
use Rattle.tcs_terms.specs.declared.logs.Row.{Row}
use Rattle.tcs_terms.specs.Payloads.{Accesses}
use Rattle.tcs_laws.specs.Certification.{Tests}
use Rattle.protocol.specs.Log.{row_of, new_entry}
use Rattle.version_store.specs.declared.store.VersionStore.{VersionStore}
use Rattle.version_store.specs.Keeping.{StandsFor}
use Rattle.version_store.proofs.Undecided.{stands_appended}
use Rattle.cert_log.specs.Preparing.{rows_by, prepared_rows}

-- the rows that follow, or those before, by what a call returned on what owns them
pub stands_after : {A E S : Type 0} (rows_of : S → List Row) (r : Result A E) (store : VersionStore) (before next now : S) → OnOk r (now ≡ next) → OnErr r (now ≡ before)
    → StandsFor store (rows_of before) → StandsFor store (rows_of next) → StandsFor store (rows_of now)
stands_after rows_of (Ok x) store before next now ok err was will = subst (λ s. StandsFor store (rows_of s)) (sym ok) will
stands_after rows_of (Err e) store before next now ok err was will = subst (λ s. StandsFor store (rows_of s)) (sym err) was

-- what a leader prepares
pub stands_prepared : (store : VersionStore) (tests : Tests) (rows : List Row) (txn : TxId) (shards : List ℕ) (part : Option Accesses)
    → StandsFor store rows → StandsFor store (prepared_rows tests rows txn shards part)
stands_prepared store tests rows txn shards part stands = go (row_of rows txn) where
  go : (found : Option Row) → StandsFor store (rows_by found rows (new_entry tests rows txn shards part))
  go None = stands_appended store rows stands (new_entry tests rows txn shards part)
  go (Some row) = stands
