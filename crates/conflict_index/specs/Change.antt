-- How what an index keeps changes.
use Rattle.std.specs.Prelude.{◌≡◌, ℕ, ◌≢◌, ◌⊎◌, false, not, IsTrue}
use Rattle.std.specs.List.{list_all}
use Rattle.std.specs.BTreeSet.{BTreeSet, contains}
use Rattle.std.specs.Ordering.{nat_cmp}
use Rattle.std.specs.declared.cmp.Ordering.{Ordering}
use Rattle.conflict_index.specs.declared.kept.Kept.{Kept}
use Rattle.conflict_index.specs.declared.places.Place.{Place}
use Rattle.tcs_terms.specs.declared.logs.Mark.{Mark}
use Rattle.tcs_terms.specs.declared.votes.Vote.TheVariants.{Commit}
use Rattle.tcs_terms.specs.Payloads.{Accesses}
use Rattle.conflict_index.specs.Keeping.{place, place_cmp, writes_count, is_live, AreObjectsOf}

-- a set loses nothing
pub record Grows {K : Type 0} (cmp : K → K → Ordering) (before after : BTreeSet K) : Type 0 where
  pub keeps : (q : K) → IsTrue (contains cmp before q) → IsTrue (contains cmp after q)

-- a set gains nothing but one place
pub record Gains (place : Place) (before after : BTreeSet Place) : Type 0 where
  pub none_else : (q : Place) → IsTrue (contains place_cmp after q) → (place ≡ q) ⊎ IsTrue (contains place_cmp before q)

-- an index loses nothing of its rows
pub record KeepsMore (before after : Kept) : Type 0 where
  pub writes : Grows place_cmp before.writes after.writes
  pub writers : Grows place_cmp before.writers after.writers
  pub readers : Grows place_cmp before.readers after.readers
  pub ranged : Grows nat_cmp before.ranged after.ranged
  pub objects : AreObjectsOf before.objects before.writes → AreObjectsOf after.objects after.writes

-- places at other slots stay as they are, and none is new
pub record ChangesSlot (slot : ℕ) (before after : BTreeSet Place) : Type 0 where
  pub none_new : (q : Place) → contains place_cmp before q ≡ false → contains place_cmp after q ≡ false
  pub others : (q : Place) → q.slot ≢ slot → contains place_cmp after q ≡ contains place_cmp before q

-- other slots stay as they are
pub record ChangesOnly (slot : ℕ) (before after : BTreeSet ℕ) : Type 0 where
  pub others : (q : ℕ) → q ≢ slot → contains nat_cmp after q ≡ contains nat_cmp before q

-- What no longer counts of a row is forgotten once it has a mark: nothing of other rows, and of the row itself
-- neither its writes while they count, nor what is kept of live rows while it is live.
pub record Forgets (slot : ℕ) (mark : Mark) (before after : Kept) : Type 0 where
  pub writes_else : ChangesSlot slot before.writes after.writes
  pub writers_else : ChangesSlot slot before.writers after.writers
  pub readers_else : ChangesSlot slot before.readers after.readers
  pub ranged_else : ChangesOnly slot before.ranged after.ranged
  pub writes_stay : IsTrue (writes_count mark) → Grows place_cmp before.writes after.writes
  pub writers_stay : IsTrue (is_live mark Commit) → Grows place_cmp before.writers after.writers
  pub readers_stay : IsTrue (is_live mark Commit) → Grows place_cmp before.readers after.readers
  pub ranged_stay : IsTrue (is_live mark Commit) → Grows nat_cmp before.ranged after.ranged
  pub objects : AreObjectsOf before.objects before.writes → AreObjectsOf after.objects after.writes

-- what of a row is no longer kept: its writes once they no longer count, and what is kept of live rows once it is none
pub record IsGone (slot : ℕ) (mark : Mark) (kept : Kept) (p : Accesses) : Type 0 where
  pub writes : writes_count mark ≡ false
      → IsTrue (list_all (λ w. not (contains place_cmp kept.writes (place w.name p.version slot))) p.writes)
  pub writers : is_live mark Commit ≡ false
      → IsTrue (list_all (λ w. not (contains place_cmp kept.writers (place w.name p.version slot))) p.writes)
  pub readers : is_live mark Commit ≡ false
      → IsTrue (list_all (λ r. not (contains place_cmp kept.readers (place r.name p.version slot))) p.reads)
  pub ranged : is_live mark Commit ≡ false → contains nat_cmp kept.ranged slot ≡ false
