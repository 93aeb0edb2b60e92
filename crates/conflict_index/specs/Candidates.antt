-- The lowest slot that clashes, among the slots of some rows.
use Rattle.std.specs.Prelude.{ℕ, ◌^◌, ◌-◌, Bool, true, ◌&&◌, ◌==◌, nat_lt, if◌then◌else◌, Option, Some, None, List, [], ◌∷◌, fold, find}
use Rattle.std.specs.List.{list_any}
use Rattle.std.specs.BTreeSet.{BTreeSet, keys_between}
use Rattle.std.specs.declared.ops.Bound.TheVariants.{Included, Excluded}
use Rattle.tcs_terms.specs.declared.logs.Row.{Row}
use Rattle.tcs_terms.specs.declared.payloads.ReadPart.{ReadPart}
use Rattle.tcs_terms.specs.declared.payloads.RangePart.{RangePart}
use Rattle.tcs_terms.specs.declared.payloads.WritePart.{WritePart}
use Rattle.tcs_terms.specs.declared.votes.Vote.{Vote}
use Rattle.tcs_terms.specs.declared.votes.Vote.TheVariants.{Commit}
use Rattle.tcs_terms.specs.Payloads.{Accesses}
use Rattle.tcs_laws.specs.Certification.{Tests}
use Rattle.tcs_laws.specs.Votes.{clashes, vote_by}
use Rattle.conflict_index.specs.declared.kept.Kept.{Kept}
use Rattle.conflict_index.specs.declared.places.Place.{Place}
use Rattle.conflict_index.specs.Keeping.{place, place_cmp, object_cmp}

-- whether the row of a slot clashes with a payload
abbrev pub clashes_at : Tests → List Row → Accesses → ℕ → Bool
clashes_at tests rows new slot = list_any (λ r. (r.entry.slot == slot) && clashes tests r new) rows

-- whether a slot is below the lowest one so far
abbrev pub is_lower : ℕ → Option ℕ → Bool
is_lower slot None = true
is_lower slot (Some best) = nat_lt slot best

-- the places of an object
abbrev pub places_of : BTreeSet Place → List ℕ → List Place
places_of places name = keys_between place_cmp (Included (place name 0 0)) (Included (place name (2 ^ 64 - 1) 65535)) places

-- the places of an object above a version
abbrev pub places_above : BTreeSet Place → List ℕ → ℕ → List Place
places_above places object version =
    keys_between place_cmp (Included (place object version 65535)) (Included (place object (2 ^ 64 - 1) 65535)) places

-- the places of all objects of a range
abbrev pub places_in : BTreeSet Place → RangePart → List Place
places_in places q = keys_between place_cmp (Included (place q.from 0 0)) (Excluded (place q.upto 0 0)) places

-- the objects of a range
abbrev pub objects_in : BTreeSet (List ℕ) → RangePart → List (List ℕ)
objects_in objects q = keys_between object_cmp (Included q.from) (Excluded q.upto) objects

module _ (tests : Tests) (rows : List Row) (new : Accesses) where
  -- the lowest slot that clashes, with one slot more looked at
  abbrev pub lower : Option ℕ → ℕ → Option ℕ
  lower best slot = if is_lower slot best && clashes_at tests rows new slot then Some slot else best

  -- with the slots of some places
  abbrev pub lowest_at : List Place → Option ℕ → Option ℕ
  lowest_at places best = fold (λ b p. lower b p.slot) best places

  -- with those of the live writers of an object, and of those who wrote it above the version that was seen
  abbrev pub lowest_by_read : Kept → ReadPart → Option ℕ → Option ℕ
  lowest_by_read kept r best =
      lowest_at (places_above kept.writes r.name r.version) (lowest_at (places_of kept.writers r.name) best)

  -- with those of the live writers of all objects of a range, and of those who wrote one above the version of the range
  abbrev pub lowest_by_range : Kept → RangePart → Option ℕ → Option ℕ
  lowest_by_range kept q best =
      fold (λ b object. lowest_at (places_above kept.writes object q.version) b)
      (lowest_at (places_in kept.writers q) best) (objects_in kept.objects q)

  -- with those of the live rows with ranges, where something is written
  abbrev pub lowest_ranged : BTreeSet ℕ → List WritePart → Option ℕ → Option ℕ
  lowest_ranged ranged [] best = best
  lowest_ranged ranged (w ∷ ws) best = fold lower best ranged.keys

  module _ (counts : Accesses → List ℕ → Bool) (unwritten : Bool) (kept : Kept) where
    abbrev pub lowest_by_reads : Option ℕ → Option ℕ
    lowest_by_reads best = fold (λ b r. if counts new r.name then lowest_by_read kept r b else b) best new.reads

    abbrev pub lowest_by_ranges : Option ℕ → Option ℕ
    lowest_by_ranges best = if unwritten then fold (λ b q. lowest_by_range kept q b) best new.ranges else best

    abbrev pub lowest_by_writes : Option ℕ → Option ℕ
    lowest_by_writes best = fold (λ b w. lowest_at (places_of kept.readers w.name) b) best new.writes

    -- The lowest slot that clashes among the rows that stand in the payload's way: live ones that write what it saw or
    -- saw what it writes, and those that wrote what it saw at a higher version.
    abbrev pub lowest_in_way : Option ℕ
    lowest_in_way = lowest_ranged kept.ranged new.writes (lowest_by_writes (lowest_by_ranges (lowest_by_reads None)))

-- the vote, given the lowest slot that clashes
abbrev pub vote_at : List Row → Option ℕ → Vote
vote_at rows None = Commit
vote_at rows (Some slot) = vote_by (find (λ r. r.entry.slot == slot) rows)
