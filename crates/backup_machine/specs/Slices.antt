-- The slices of a backup, and the payload of each.
use Rattle.std.specs.Prelude.{ℕ, zero, suc, ◌+◌, max, nat_le, if◌then◌else◌, List, [], ◌∷◌, length, map, fold, take, drop}
use Rattle.tcs_terms.specs.declared.payloads.ReadPart.{ReadPart}
use Rattle.tcs_terms.specs.declared.payloads.RangePart.{RangePart}
use Rattle.tcs_terms.specs.Payloads.{Accesses}
use Rattle.backup_machine.specs.declared.objects.Kept.{Kept}

-- what a slice reads of an object
abbrev pub read_of : Kept → ReadPart
read_of k = record { name = k.name; version = k.version }

-- the greatest version, 0 where nothing is kept
abbrev pub greatest : List Kept → ℕ
greatest kept = fold (λ (most : ℕ) (k : Kept). max most k.version) 0 kept

-- what a slice reads of its range: whatever else is there is absent
abbrev pub range_of : List ℕ → List ℕ → RangePart
range_of from upto = record { from = from; upto = upto; version = 0 }

-- The payload of a slice: its objects at their versions, and its range at 0. Nothing is written.
abbrev pub slice_payload : List ℕ → List ℕ → List Kept → Accesses
slice_payload from upto kept = record { reads = map read_of kept; ranges = range_of from upto ∷ []; writes = []; version = greatest kept + 1 }

abbrev pub first_name : List Kept → List ℕ
first_name [] = []
first_name (k ∷ ks) = k.name

-- At most so many slices: as many objects each as it is wide, and the last one what is left. Each one ends where the
-- next begins, which is at its first name; the last one ends where the range does.
abbrev pub slices : ℕ → ℕ → List ℕ → List ℕ → List Kept → List Accesses
slices zero width from upto kept = []
slices (suc most) width from upto kept =
    if nat_le (length kept) width
    then slice_payload from upto kept ∷ []
    else slice_payload from (first_name (drop width kept)) (take width kept) ∷ slices most width (first_name (drop width kept)) upto (drop width kept)

-- the slices of the objects: no more than there are objects, or one
abbrev pub all_slices : ℕ → List ℕ → List ℕ → List Kept → List Accesses
all_slices width from upto kept = slices (suc (length kept)) width from upto kept
