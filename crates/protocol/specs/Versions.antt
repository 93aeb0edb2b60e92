-- What a node reads of an object: its committed value of greatest version.
use Rattle.std.specs.Prelude.{ℕ, nat_lt, if◌then◌else◌, List, [], find, fold, Option, Some, None}
use Rattle.tcs_terms.specs.declared.logs.Row.{Row}
use Rattle.tcs_terms.specs.declared.logs.Mark.{Mark}
use Rattle.tcs_terms.specs.declared.logs.Mark.TheVariants.{Undecided, Committed, Aborted}
use Rattle.tcs_terms.specs.declared.payloads.WritePart.{WritePart}
use Rattle.tcs_terms.specs.Payloads.{Accesses, same_name}

-- a version of an object, and its value; version 0 where there is none
pub record Reading : Type 0 where
  pub version : ℕ
  pub value : Option (List ℕ)

-- an object that was never written
abbrev pub nothing_read : Reading
nothing_read = record { version = 0; value = None }

-- the better of what was found and of what a committed payload writes: the greater version, the earlier of equal ones
abbrev pub newer_write : Reading → ℕ → Option WritePart → Reading
newer_write best version None = best
newer_write best version (Some w) =
    if nat_lt best.version version then record { version = version; value = Some w.value } else best

-- the same, of a payload that may write the object
abbrev pub newer_part : List ℕ → Reading → Option Accesses → Reading
newer_part name best None = best
newer_part name best (Some p) = newer_write best p.version (find (λ w. same_name w.name name) p.writes)

-- rows that are not committed do not count
abbrev pub newer_row : List ℕ → Reading → Mark → Option Accesses → Reading
newer_row name best Committed part = newer_part name best part
newer_row name best Undecided part = best
newer_row name best Aborted part = best

-- the greatest commit version among the committed rows that write the object, and the value of the first that has it
unfoldable pub read_of : List Row → List ℕ → Reading
read_of rows name = fold (λ best r. newer_row name best r.mark r.entry.payload) nothing_read rows

-- the value that a reading tells: the empty one where there is none
abbrev pub value_or_empty : Option (List ℕ) → List ℕ
value_or_empty None = []
value_or_empty (Some value) = value
