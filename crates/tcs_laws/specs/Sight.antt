-- Rules that ask of each object that one payload writes at which version the other one saw it.
use Rattle.std.specs.Prelude.{◌≡◌, ℕ, Bool, false, not, ◌||◌, is_some, if◌then◌else◌, IsTrue, Option, None, List}
use Rattle.std.specs.List.{list_any}
use Rattle.tcs_terms.specs.Payloads.{Accesses, IsPayload}
use Rattle.tcs_terms.specs.Shards.{seen}
use Rattle.tcs_laws.specs.Certification.{Tests}
use Rattle.tcs_laws.specs.Writing.{writes_name, seen_below}

-- the version at which a payload counts as having seen an object, or none
abbrev pub Sight : Type 0
Sight = Accesses → List ℕ → Option ℕ

-- what a payload saw of an object, for a rule by which it counts of some objects alone
abbrev pub counted : (Accesses → List ℕ → Bool) → Sight
counted counts p name = if counts p name then seen p name else None

-- whether the writer writes an object of which the reader's sight counts
abbrev pub writes_sighted : Sight → Accesses → Accesses → Bool
writes_sighted sight writer reader = list_any (λ w. is_some (sight reader w.name)) writer.writes

-- whether it does so at a version above the one that the reader saw
abbrev pub writes_past_sight : Sight → Accesses → Accesses → Bool
writes_past_sight sight writer reader = list_any (λ w. seen_below (sight reader w.name) writer.version) writer.writes

-- the two tests by a sight
abbrev pub by_sight : Sight → Tests
by_sight sight = record {
  committed_ok = λ old new. not (writes_past_sight sight old new);
  prepared_ok = λ old new. not (writes_sighted sight old new || writes_sighted sight new old);
}

-- A rule that goes by what payloads saw of the objects that count for it. A committed payload stands in the way of a
-- newer one exactly where it writes an object that the newer one saw, and that counts, below the older one's version.
-- A prepared one does exactly where one of the two writes what the other one saw, and what counts for that one.
pub record GoesBySight (counts : Accesses → List ℕ → Bool) (tests : Tests) : Type 0 where
  pub committed : (old new : Accesses) → tests.committed_ok old new ≡ (by_sight (counted counts)).committed_ok old new
  pub prepared : (old new : Accesses) → IsPayload old → IsPayload new
      → tests.prepared_ok old new ≡ (by_sight (counted counts)).prepared_ok old new

-- of objects that a payload does not write nothing counts
pub record CountsWritten (counts : Accesses → List ℕ → Bool) : Type 0 where
  pub written : (p : Accesses) (name : List ℕ) → IsTrue (counts p name) → IsTrue (writes_name p.writes name)
