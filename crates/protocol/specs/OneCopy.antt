-- Honest reads, and one copy of the data.
use Rattle.std.specs.Prelude.{ℕ, Bool, true, false, not, ◌&&◌, ◌||◌, ◌==◌, nat_eq, nat_le, List, [], find, fold, flat_map, take_while, Option, Some, None, is_some}
use Rattle.std.specs.Cmp.Lexicographic.{pointwise}
use Rattle.std.specs.List.{list_all, list_any}
use Rattle.tcs_terms.specs.declared.ids.TxId.{TxId}
use Rattle.tcs_terms.specs.declared.inputs.Note.{Note}
use Rattle.tcs_terms.specs.declared.inputs.Note.TheVariants.{Begin, Take, ReadValue, Decide}
use Rattle.tcs_terms.specs.declared.payloads.ReadPart.{ReadPart}
use Rattle.tcs_terms.specs.declared.payloads.RangePart.{RangePart}
use Rattle.tcs_terms.specs.declared.payloads.WritePart.{WritePart}
use Rattle.tcs_terms.specs.Payloads.{Accesses, same_name, reads_name}
use Rattle.tcs_terms.specs.Shards.{in_range_part}
use Rattle.protocol.specs.History.{begins_with, payload_in, order_of, payloads_of}
use Rattle.protocol.specs.Past.{with_past}

-- whether a note is a reading of that object at that version
abbrev pub tells_version : List ℕ → ℕ → Note → Bool
tells_version name version (Begin txn payload) = false
tells_version name version (Take txn) = false
tells_version name version (ReadValue other other_version value) = same_name other name && (other_version == version)
tells_version name version (Decide txn decision) = false

-- whether what a transaction reads was read before it begins
abbrev pub honest_after : List Note → Note → Bool
honest_after past (Begin txn payload) = list_all (λ r. list_any (tells_version r.name r.version) past) payload.reads
honest_after past (Take txn) = true
honest_after past (ReadValue name version value) = true
honest_after past (Decide txn decision) = true

-- Honest reads: before a transaction begins, each object that it reads by name was read at that version.
abbrev pub is_honest : List Note → Bool
is_honest h = list_all (λ e. honest_after e.0 e.1) (with_past h)

-- an object in the copy: its version and value, 0 and empty before it is written
pub record Copied : Type 0 where
  pub version : ℕ
  pub value : List ℕ

-- an object after a write, if it is written
abbrev pub overwritten : Copied → ℕ → Option WritePart → Copied
overwritten old version None = old
overwritten old version (Some w) = record { version = version; value = w.value }

-- one copy of the data after these payloads, applied one after the other: what it has of an object
abbrev pub copy_after : List Accesses → List ℕ → Copied
copy_after payloads name =
    fold (λ old p. overwritten old p.version (find (λ w. same_name w.name name) p.writes)) (record { version = 0; value = [] }) payloads

-- a reading of that object and version told this value
abbrev pub tells_value : List ℕ → ℕ → List ℕ → Note → Bool
tells_value name version value (Begin txn payload) = true
tells_value name version value (Take txn) = true
tells_value name version value (ReadValue other other_version other_value) =
    not (same_name other name && (other_version == version)) || pointwise nat_eq other_value value
tells_value name version value (Decide txn decision) = true

-- what stands before a transaction's beginning
abbrev pub before_begin : List Note → TxId → List Note
before_begin h txn = take_while (λ n. not (is_some (begins_with txn n))) h

-- the copy has an object at the version that was read, with the value that each reading told
abbrev pub read_fits : List Note → List Accesses → ReadPart → Bool
read_fits past olds r =
    ((copy_after olds r.name).version == r.version) && list_all (tells_value r.name r.version (copy_after olds r.name).value) past

-- of the objects in a range that are not read by name, the copy has none at a greater version than the range's; only
-- written objects need be looked at, since any other is at version 0
abbrev pub range_fits : List Accesses → List ReadPart → RangePart → Bool
range_fits olds reads q =
    list_all (λ w. not (in_range_part w.name q) || reads_name reads w.name || nat_le (copy_after olds w.name).version q.version)
    (flat_map (λ p. p.writes) olds)

-- whether the copy has what a payload read
abbrev pub fits_copy : List Note → List Accesses → Option Accesses → Bool
fits_copy past olds None = false
fits_copy past olds (Some p) = list_all (read_fits past olds) p.reads && list_all (range_fits olds p.reads) p.ranges

-- One copy: the committed transactions, applied in their order to one copy of the data, each find there what they read.
abbrev pub is_one_copy : List Note → Bool
is_one_copy h =
    list_all (λ e. fits_copy (before_begin h e.1) (payloads_of h e.0) (payload_in h e.1)) (with_past (order_of h))
