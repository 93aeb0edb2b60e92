-- What a store keeps of each object: the committed write that goes before all others.
use Rattle.std.specs.Prelude.{◌≡◌, ℕ, Bool, ◌&&◌, ◌||◌, ◌==◌, nat_lt, if◌then◌else◌, List, find, fold, map, Option, Some, None, IsTrue}
use Rattle.std.specs.BTreeMap.{BTreeMap, get_by}
use Rattle.std.specs.Ordering.{nat_cmp}
use Rattle.std.specs.Cmp.Lexicographic.{slice_cmp}
use Rattle.tcs_terms.specs.declared.logs.Row.{Row}
use Rattle.tcs_terms.specs.declared.logs.Mark.{Mark}
use Rattle.tcs_terms.specs.declared.logs.Mark.TheVariants.{Undecided, Committed, Aborted}
use Rattle.tcs_terms.specs.declared.payloads.WritePart.{WritePart}
use Rattle.tcs_terms.specs.Order.{ascends}
use Rattle.tcs_terms.specs.Payloads.{Accesses, same_name}
use Rattle.version_store.specs.declared.kept.Kept.{Kept}
use Rattle.version_store.specs.declared.store.VersionStore.{VersionStore}

-- whether a write goes before what is kept of its object: it has the greater version, or the lower slot of equal ones
abbrev pub goes_before : ℕ → ℕ → Option Kept → Bool
goes_before version slot None = nat_lt 0 version
goes_before version slot (Some k) = nat_lt k.version version || ((version == k.version) && nat_lt slot k.slot)

-- what is kept of an object after one more write of it
abbrev pub better : Option Kept → Option Kept → Option Kept
better kept None = kept
better kept (Some w) = if goes_before w.version w.slot kept then Some w else kept

-- a write as it is kept
abbrev pub found_write : ℕ → ℕ → Option WritePart → Option Kept
found_write slot version None = None
found_write slot version (Some w) = Some (record { version = version; slot = slot; value = w.value })

-- the write of an object in a payload, where there is one
abbrev pub part_write : List ℕ → ℕ → Option Accesses → Option Kept
part_write name slot None = None
part_write name slot (Some p) = found_write slot p.version (find (λ w. same_name w.name name) p.writes)

-- the same, in a row that is committed
abbrev pub marked_write : List ℕ → ℕ → Mark → Option Accesses → Option Kept
marked_write name slot Committed part = part_write name slot part
marked_write name slot Undecided part = None
marked_write name slot Aborted part = None

abbrev pub write_of : Row → List ℕ → Option Kept
write_of r name = marked_write name r.entry.slot r.mark r.entry.payload

-- of the committed writes of an object, the one of greatest version, and of lowest slot among equal ones
unfoldable pub best_of : List Row → List ℕ → Option Kept
best_of rows name = fold (λ best r. better best (write_of r name)) None rows

-- what is kept of an object
abbrev pub kept_at : BTreeMap (List ℕ) Kept → List ℕ → Option Kept
kept_at writes name = get_by (slice_cmp nat_cmp name) writes

-- what is kept of an object after a write, which may be of another object
abbrev pub after_write : List ℕ → ℕ → ℕ → Option Kept → WritePart → Option Kept
after_write name slot version kept w =
    if same_name w.name name then better kept (Some (record { version = version; slot = slot; value = w.value })) else kept

-- slots strictly ascend
abbrev pub SlotsAscend : List Row → Type 0
SlotsAscend rows = IsTrue (ascends (map (λ r. r.entry.slot) rows))

-- a store of these rows: of each object it keeps the best committed write
pub record StandsFor (store : VersionStore) (rows : List Row) : Type 0 where
  pub keeps : (name : List ℕ) → kept_at store.writes name ≡ best_of rows name
