-- Neighbours in the order, and the copy of the data before a transaction of it.
use Rattle.std.specs.Prelude.{◌≡◌, ℕ, Bool, true, not, List, is_some, take_while}
use Rattle.std.specs.List.{list_all}
use Rattle.tcs_terms.specs.declared.ids.TxId.{TxId}
use Rattle.tcs_terms.specs.declared.inputs.Note.{Note}
use Rattle.tcs_terms.specs.declared.inputs.Note.TheVariants.{ReadValue}
use Rattle.tcs_terms.specs.declared.payloads.ReadPart.{ReadPart}
use Rattle.tcs_terms.specs.Logs.{same_txn}
use Rattle.tcs_terms.specs.Payloads.{Accesses}
use Rattle.tcs_terms.specs.Shards.{seen}
use Rattle.tcs_laws.specs.Certification.{Tests, committed_passes}
use Rattle.tcs_laws.specs.Writing.{writes_name}
use Rattle.cert_commute.specs.Commute.{adds_to}
use Rattle.protocol.specs.History.{order_of, payloads_of}
use Rattle.protocol.specs.Invariant.Time.{StandsIn}
use Rattle.protocol.specs.OneCopy.{Copied, before_begin, copy_after}
use Rattle.protocol.specs.Past.{with_past}

-- whether payloads may commit in this order: each passes the committed test against all before it
abbrev pub may_commit : Tests → List Accesses → Bool
may_commit tests payloads = list_all (λ e. committed_passes tests e.0 e.1) (with_past payloads)

-- each object that the writer writes and the reader reads is a counter to which both add
abbrev pub OnlyAdds : Accesses → Accesses → Type 0
OnlyAdds writer reader =
    (name : List ℕ) → writes_name writer.writes name ≡ true → is_some (seen reader name) ≡ true
    → (adds_to writer name ≡ true) × (adds_to reader name ≡ true)

-- the transactions that stand before one in the order
abbrev pub standing_before : List Note → TxId → List TxId
standing_before h txn = take_while (λ t. not (same_txn txn t)) (order_of h)

-- what the one copy of the data has of an object before a transaction of the order: after the payloads before it
abbrev pub copy_before : List Note → TxId → List ℕ → Copied
copy_before h txn name = copy_after (payloads_of h (standing_before h txn)) name

-- Before a transaction the copy has an object at the version that the transaction read, with the value that each reading
-- of that version told it.
pub record Finds (h : List Note) (txn : TxId) (read : ReadPart) : Type 0 where
  pub version : (copy_before h txn read.name).version ≡ read.version
  pub value : (value : List ℕ) → StandsIn (ReadValue read.name read.version value) (before_begin h txn) → (copy_before h txn read.name).value ≡ value
