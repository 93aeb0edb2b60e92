-- What is kept of an object is what is read of it.
use Rattle.std.proofs.Common.{◌≡◌, ℕ, ◌<◌, List, [], ◌∷◌, refl, ap, ◌∙◌, map, inl, inr, arith}
use Rattle.std.specs.Prelude.{nat_lt, Option, Some, None, find, fold}
use Rattle.std.proofs.lemmas.Bool.{and_parts, ltb-true, cases_Bool}
use Rattle.std.proofs.lemmas.Bool.Decides.{nat_tests}
use Rattle.tcs_terms.specs.declared.logs.Row.{Row}
use Rattle.tcs_terms.specs.declared.logs.Mark.{Mark}
use Rattle.tcs_terms.specs.declared.logs.Mark.TheVariants.{Undecided, Committed, Aborted}
use Rattle.tcs_terms.specs.declared.payloads.WritePart.{WritePart}
use Rattle.tcs_terms.specs.Order.{ascends}
use Rattle.tcs_terms.specs.Payloads.{Accesses, same_name}
use Rattle.protocol.specs.Versions.{Reading, nothing_read, newer_write, newer_row, read_of}
use Rattle.version_store.specs.declared.kept.Kept.{Kept}
use Rattle.version_store.specs.declared.store.VersionStore.{VersionStore}
use Rattle.version_store.specs.Keeping.{goes_before, better, found_write, marked_write, write_of, best_of, kept_at, SlotsAscend, StandsFor}
use Rattle.version_store.proofs.Slots.{rest_ascends}

-- what is read where this is kept
abbrev pub reading : Option Kept → Reading
reading None = nothing_read
reading (Some k) = record { version = k.version; value = Some k.value }

-- what is kept comes from a row below the slot
abbrev IsBelow : Option Kept → ℕ → Type 0
IsBelow None slot = Unit {0}
IsBelow (Some k) slot = k.slot < slot

-- of equal versions the earlier one stays
later_goes : (best : Option Kept) (version slot : ℕ) → IsBelow best slot → goes_before version slot best ≡ nat_lt (reading best).version version
later_goes None version slot below = refl
later_goes (Some k) version slot below = grind (arith, nat_tests)

read_found : (best : Option Kept) (slot : ℕ) → IsBelow best slot → (version : ℕ) (found : Option WritePart)
    → reading (better best (found_write slot version found)) ≡ newer_write (reading best) version found
read_found best slot below version None = refl
read_found best slot below version (Some w) = elim (cases_Bool (nat_lt (reading best).version version)) [
  | inl newer ↦ rw (later_goes best version slot below, newer) refl
  | inr older ↦ rw (later_goes best version slot below, older) refl
]

read_row : (name : List ℕ) (best : Option Kept) (slot : ℕ) → IsBelow best slot → (mark : Mark) (part : Option Accesses)
    → reading (better best (marked_write name slot mark part)) ≡ newer_row name (reading best) mark part
read_row name best slot below Undecided part = refl
read_row name best slot below Aborted part = refl
read_row name best slot below Committed None = refl
read_row name best slot below Committed (Some p) = read_found best slot below p.version (find (λ w. same_name w.name name) p.writes)

still_below : (best : Option Kept) (slot next : ℕ) → slot < next → IsBelow best slot → IsBelow best next
still_below None slot next less below = tt
still_below (Some k) slot next less below = omega arith

below_found : (best : Option Kept) (slot next : ℕ) → slot < next → IsBelow best slot → (version : ℕ) (found : Option WritePart)
    → IsBelow (better best (found_write slot version found)) next
below_found best slot next less below version None = still_below best slot next less below
below_found best slot next less below version (Some w) = elim (cases_Bool (goes_before version slot best)) [
  | inl taken ↦ rw taken less
  | inr past ↦ rw past (still_below best slot next less below)
]

below_row : (name : List ℕ) (best : Option Kept) (slot next : ℕ) → slot < next → IsBelow best slot → (mark : Mark) (part : Option Accesses)
    → IsBelow (better best (marked_write name slot mark part)) next
below_row name best slot next less below Undecided part = still_below best slot next less below
below_row name best slot next less below Aborted part = still_below best slot next less below
below_row name best slot next less below Committed None = still_below best slot next less below
below_row name best slot next less below Committed (Some p) =
    below_found best slot next less below p.version (find (λ w. same_name w.name name) p.writes)

abbrev IsBelowFirst : Option Kept → List Row → Type 0
IsBelowFirst best [] = Unit {0}
IsBelowFirst best (r ∷ rs) = IsBelow best r.entry.slot

below_rest : (name : List ℕ) (best : Option Kept) (r : Row) (rs : List Row) → SlotsAscend (r ∷ rs) → IsBelow best r.entry.slot
    → IsBelowFirst (better best (write_of r name)) rs
below_rest name best r [] rise below = tt
below_rest name best r (x ∷ xs) rise below =
    let less = ltb-true r.entry.slot x.entry.slot (and_parts (nat_lt r.entry.slot x.entry.slot) (ascends (map (λ r. r.entry.slot) (x ∷ xs))) rise).0 in
    below_row name best r.entry.slot x.entry.slot less below r.mark r.entry.payload

read_rows : (name : List ℕ) (rows : List Row) → SlotsAscend rows → (best : Option Kept) → IsBelowFirst best rows
    → reading (fold (λ b r. better b (write_of r name)) best rows) ≡ fold (λ b r. newer_row name b r.mark r.entry.payload) (reading best) rows
read_rows name [] rise best below = refl
read_rows name (r ∷ rs) rise best below =
    read_rows name rs (rest_ascends r rs rise) (better best (write_of r name)) (below_rest name best r rs rise below)
    ∙ ap (λ b. fold (λ b r. newer_row name b r.mark r.entry.payload) b rs) (read_row name best r.entry.slot below r.mark r.entry.payload)

-- the best write of an object is what is read of it
pub read_best : (rows : List Row) → SlotsAscend rows → (name : List ℕ) → reading (best_of rows name) ≡ read_of rows name
unfolding best_of read_of
read_best [] rise name = refl
read_best (r ∷ rs) rise name = read_rows name (r ∷ rs) rise None tt

-- what a store keeps at the bytes of a name is what is read of it
pub read_kept : (store : VersionStore) (rows : List Row) → StandsFor store rows → SlotsAscend rows → (name : List ℕ)
    → (kept : Option Kept) → kept ≡ kept_at store.writes name → reading kept ≡ read_of rows name
read_kept store rows stands rise name kept found =
    ap reading (found ∙ stands.keeps name) ∙ read_best rows rise name
