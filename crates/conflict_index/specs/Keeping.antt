-- What an index keeps of the rows that it stands for.
use Rattle.std.specs.Prelude.{ℕ, ◌^◌, Bool, true, false, not, ◌&&◌, ◌||◌, ◌==◌, nat_lt, IsTrue, All, IfSome, List, [], ◌∷◌, length}
use Rattle.std.specs.List.{list_all}
use Rattle.std.specs.BTreeSet.{BTreeSet, contains}
use Rattle.std.specs.Cmp.Lexicographic.{slice_cmp}
use Rattle.std.specs.Ordering.{nat_cmp, ordering_then}
use Rattle.std.specs.declared.cmp.Ordering.{Ordering}
use Rattle.tcs_terms.specs.declared.logs.Row.{Row}
use Rattle.tcs_terms.specs.declared.logs.Mark.{Mark}
use Rattle.tcs_terms.specs.declared.logs.Mark.TheVariants.{Undecided, Committed, Aborted}
use Rattle.tcs_terms.specs.declared.votes.Vote.{Vote}
use Rattle.tcs_terms.specs.declared.votes.Vote.TheVariants.{Commit, Clash, Lost}
use Rattle.tcs_terms.specs.Payloads.{Accesses, IsPayload}
use Rattle.conflict_index.specs.declared.kept.Kept.{Kept}
use Rattle.conflict_index.specs.declared.places.Place.{Place}

-- the place of an object at a version and a slot
abbrev pub place : List ℕ → ℕ → ℕ → Place
place object version slot = record { object = object; version = version; slot = slot }

-- places stand in the order of objects, then of versions, and then of slots
abbrev pub place_cmp : Place → Place → Ordering
place_cmp a b =
    ordering_then (slice_cmp nat_cmp a.object b.object) (ordering_then (nat_cmp a.version b.version) (nat_cmp a.slot b.slot))

-- objects stand in the order of their names
abbrev pub object_cmp : List ℕ → List ℕ → Ordering
object_cmp a b = slice_cmp nat_cmp a b

-- the writes of a row count unless it is aborted
abbrev pub writes_count : Mark → Bool
writes_count Undecided = true
writes_count Committed = true
writes_count Aborted = false

-- a row is live while it is undecided and may still commit
abbrev pub is_live : Mark → Vote → Bool
is_live Undecided Commit = true
is_live Undecided (Clash txn) = false
is_live Undecided Lost = false
is_live Committed vote = false
is_live Aborted vote = false

-- slots strictly ascend
abbrev pub slots_rise : List Row → Bool
slots_rise [] = true
slots_rise (r ∷ rs) = list_all (λ later. nat_lt r.entry.slot later.entry.slot) rs && slots_rise rs

-- whether all places are kept
abbrev pub all_kept : {X : Type 0} → BTreeSet Place → (X → Place) → List X → Bool
all_kept places at parts = list_all (λ x. contains place_cmp places (at x)) parts

-- the object of each place is kept
pub record AreObjectsOf (objects : BTreeSet (List ℕ)) (places : BTreeSet Place) : Type 0 where
  pub has : (at : Place) → IsTrue (contains place_cmp places at) → IsTrue (contains object_cmp objects at.object)

-- `counts` says of which objects it counts what a payload saw, and `unwritten` whether any of these may not be written.
module _ (counts : Accesses → List ℕ → Bool) (unwritten : Bool) (kept : Kept) where
  -- What is kept of a row with a payload: where it writes, unless it is aborted; and while it is live, again where it
  -- writes, each object that it read by name where that counts, and the row itself where ranges count and it has one.
  -- More may be kept: a vote looks at the row itself.
  pub record Keeps (mark : Mark) (vote : Vote) (slot : ℕ) (p : Accesses) : Type 0 where
    pub formed : IsPayload p
    pub in_writes : IsTrue (writes_count mark) → IsTrue (all_kept kept.writes (λ w. place w.name p.version slot) p.writes)
    pub in_writers : IsTrue (is_live mark vote) → IsTrue (all_kept kept.writers (λ w. place w.name p.version slot) p.writes)
    pub in_readers : IsTrue (is_live mark vote) → IsTrue (list_all (λ r. not (counts p r.name)
        || contains place_cmp kept.readers (place r.name p.version slot)) p.reads)
    pub in_ranged : IsTrue (is_live mark vote) → IsTrue (not unwritten || ((length p.ranges == 0) || contains nat_cmp kept.ranged slot))

  abbrev pub KeepsRow : Row → Type 0
  KeepsRow r = IfSome r.entry.payload (Keeps r.mark r.entry.vote r.entry.slot)

  -- an index of rows whose slots ascend
  pub record IsIndexOf (rows : List Row) : Type 0 where
    pub rise : IsTrue (slots_rise rows)
    pub fit : IsTrue (list_all (λ r. nat_lt r.entry.slot (2 ^ 16)) rows)
    pub objects : AreObjectsOf kept.objects kept.writes
    pub keeps : All KeepsRow rows
