-- The search of an index gives the vote over the rows that it stands for.
use Rattle.std.proofs.Common.{◌≡◌, ℕ, ◌^◌, ◌<◌, Bool, true, false, not, ◌&&◌, ◌||◌, cond, List, [], ◌∷◌, refl, subst, inl, inr}
use Rattle.std.specs.Prelude.{◌==◌, nat_lt, Option, Some, None, All, IfSome, IsTrue}
use Rattle.std.specs.List.{list_any, list_all}
use Rattle.std.specs.BTreeSet.{BTreeSet}
use Rattle.std.proofs.lemmas.Bool.{and_parts, or_cases, or_left, or_right, eqb-true, ltb-true}
use Rattle.std.proofs.lemmas.List.Elements.{All-head, All-tail}
use Rattle.tcs_terms.specs.declared.logs.Row.{Row}
use Rattle.tcs_terms.specs.declared.logs.Mark.{Mark}
use Rattle.tcs_terms.specs.declared.logs.Mark.TheVariants.{Undecided, Committed, Aborted}
use Rattle.tcs_terms.specs.declared.votes.Vote.{Vote}
use Rattle.tcs_terms.specs.declared.votes.Vote.TheVariants.{Commit, Clash, Lost}
use Rattle.tcs_terms.specs.declared.payloads.ReadPart.{ReadPart}
use Rattle.tcs_terms.specs.declared.payloads.RangePart.{RangePart}
use Rattle.tcs_terms.specs.declared.payloads.WritePart.{WritePart}
use Rattle.tcs_terms.specs.Payloads.{Accesses, IsPayload}
use Rattle.tcs_laws.specs.Certification.{Tests}
use Rattle.tcs_laws.specs.Sight.{GoesBySight, CountsWritten, counted, writes_sighted, writes_past_sight}
use Rattle.tcs_laws.specs.Votes.{clashes, refuses, refuses_by, vote_on}
use Rattle.conflict_index.specs.declared.kept.Kept.{Kept}
use Rattle.conflict_index.specs.declared.places.Place.{Place}
use Rattle.conflict_index.specs.Candidates.{clashes_at, lower, places_of, places_above, places_in, objects_in, lowest_at, lowest_by_read, lowest_by_range, lowest_by_reads, lowest_by_ranges, lowest_by_writes, lowest_ranged, lowest_in_way, vote_at}
use Rattle.conflict_index.specs.Keeping.{Keeps, KeepsRow, IsIndexOf, AreObjectsOf}
use Rattle.conflict_index.proofs.Settling.{Settles, settles_one, settles_none, settles_then, settles_each, settles_if}
use Rattle.conflict_index.proofs.Finding.{vote_by_lowest}
use Rattle.conflict_index.proofs.Touching.{has_slot}
use Rattle.conflict_index.proofs.Sighted.{seen_looks, read_looks, range_looks, written_looks, ranged_slots, past_looked_at, writers_looked_at, readers_looked_at}

-- a test that is refused, where it is told by another
refused_by : (a b : Bool) → not a ≡ true → a ≡ not b → b ≡ true
refused_by a true refused same = refl
refused_by true false refused same = absurd (let no : false ≡ true = refused in cc)
refused_by false false refused same = absurd (let no : false ≡ true = same in cc)

module _ (tests : Tests) (counts : Accesses → List ℕ → Bool) (unwritten : Bool) (law : GoesBySight counts tests)
    (written : IsTrue (not unwritten) → CountsWritten counts) (kept : Kept) (new : Accesses) (formed : IsPayload new) where
  -- whether the search looks at a slot
  abbrev looked : ℕ → Bool
  looked slot = seen_looks counts unwritten written kept new slot || written_looks counts unwritten written kept new.writes slot

  -- a payload that refuses a newer one is looked at
  refuser_looked_at : AreObjectsOf kept.objects kept.writes → (mark : Mark) (vote : Vote) (slot : ℕ) (old : Accesses)
      → slot < 2 ^ 16 → Keeps counts unwritten kept mark vote slot old
      → refuses tests mark vote old new ≡ true → looked slot ≡ true
  refuser_looked_at objects Committed vote slot old few keeps refusing =
      or_left (seen_looks counts unwritten written kept new slot) (written_looks counts unwritten written kept new.writes slot)
      (past_looked_at counts unwritten written kept new formed old.version slot keeps.formed.version_fits few objects
      old.writes keeps.formed.write_parts (keeps.in_writes refl)
      (refused_by (tests.committed_ok old new) (writes_past_sight (counted counts) old new) refusing (law.committed old new)))
  refuser_looked_at objects Undecided Commit slot old few keeps refusing =
      elim (or_cases (writes_sighted (counted counts) old new) (writes_sighted (counted counts) new old)
      (refused_by (tests.prepared_ok old new) (writes_sighted (counted counts) old new || writes_sighted (counted counts) new old)
      refusing (law.prepared old new keeps.formed formed))) [
        | inl overwrites ↦ or_left (seen_looks counts unwritten written kept new slot) (written_looks counts unwritten written kept new.writes slot)
            (writers_looked_at counts unwritten written kept new formed old.version slot keeps.formed.version_fits few
            old.writes keeps.formed.write_parts (keeps.in_writers refl) overwrites)
        | inr overwritten ↦ or_right (seen_looks counts unwritten written kept new slot) (written_looks counts unwritten written kept new.writes slot)
            (readers_looked_at counts unwritten written kept slot few old keeps.formed (keeps.in_readers refl) (keeps.in_ranged refl)
            new.writes overwritten)
      ]
  refuser_looked_at objects Undecided (Clash txn) slot old few keeps refusing = absurd (let no : false ≡ true = refusing in cc)
  refuser_looked_at objects Undecided Lost slot old few keeps refusing = absurd (let no : false ≡ true = refusing in cc)
  refuser_looked_at objects Aborted vote slot old few keeps refusing = absurd (let no : false ≡ true = refusing in cc)

  -- so is a row that clashes, which has a payload
  row_looked_at : AreObjectsOf kept.objects kept.writes → (mark : Mark) (vote : Vote) (slot : ℕ) (old : Option Accesses)
      → slot < 2 ^ 16 → IfSome old (Keeps counts unwritten kept mark vote slot)
      → refuses_by tests mark vote old new ≡ true → looked slot ≡ true
  row_looked_at objects mark vote slot None few keeps clashing = absurd (let no : false ≡ true = clashing in cc)
  row_looked_at objects mark vote slot (Some old) few keeps clashing = refuser_looked_at objects mark vote slot old few keeps clashing

  -- and so is each slot that clashes
  slot_looked_at : AreObjectsOf kept.objects kept.writes → (rows : List Row)
      → list_all (λ r. nat_lt r.entry.slot (2 ^ 16)) rows ≡ true → All (KeepsRow counts unwritten kept) rows
      → (slot : ℕ) → clashes_at tests rows new slot ≡ true → looked slot ≡ true
  slot_looked_at objects [] fit keeps slot clashing = absurd (let no : false ≡ true = clashing in cc)
  slot_looked_at objects (r ∷ rs) fit keeps slot clashing =
      let fits = and_parts (nat_lt r.entry.slot (2 ^ 16)) (list_all (λ r. nat_lt r.entry.slot (2 ^ 16)) rs) fit in
      elim (or_cases ((r.entry.slot == slot) && clashes tests r new) (clashes_at tests rs new slot) clashing) [
        | inl here ↦ let parts = and_parts (r.entry.slot == slot) (clashes tests r new) here in
            subst (λ s. looked s ≡ true) (eqb-true r.entry.slot slot parts.0)
            (row_looked_at objects r.mark r.entry.vote r.entry.slot r.entry.payload
            (ltb-true r.entry.slot (2 ^ 16) fits.0) (All-head (KeepsRow counts unwritten kept) r rs keeps) parts.1)
        | inr later ↦ slot_looked_at objects rs fits.1 (All-tail (KeepsRow counts unwritten kept) r rs keeps) slot later
      ]

  module _ (rows : List Row) where
    abbrev clash : ℕ → Bool
    clash slot = clashes_at tests rows new slot

    settles_at : (places : List Place) → Settles clash (lowest_at tests rows new places) (has_slot places)
    settles_at places = settles_each clash (λ p b. lower tests rows new b p.slot) (λ p slot. p.slot == slot) (λ p. settles_one clash p.slot) places

    settles_read : (r : ReadPart) → Settles clash (λ b. cond (counts new r.name) (lowest_by_read tests rows new kept r b) b)
        (λ slot. read_looks counts unwritten written kept new slot r)
    settles_read r =
        settles_if clash (counts new r.name)
        (settles_then (settles_at (places_of kept.writers r.name)) (settles_at (places_above kept.writes r.name r.version)))

    settles_range : (q : RangePart) → Settles clash (lowest_by_range tests rows new kept q) (λ slot. range_looks counts unwritten written kept slot q)
    settles_range q =
        settles_then (settles_at (places_in kept.writers q))
        (settles_each clash (λ object b. lowest_at tests rows new (places_above kept.writes object q.version) b)
        (λ object slot. has_slot (places_above kept.writes object q.version) slot)
        (λ object. settles_at (places_above kept.writes object q.version)) (objects_in kept.objects q))

    settles_ranged : (ranged : BTreeSet ℕ) (parts : List WritePart)
        → Settles clash (lowest_ranged tests rows new ranged parts) (λ slot. list_any (λ k. k == slot) (ranged_slots ranged parts))
    settles_ranged ranged [] = settles_none clash
    settles_ranged ranged (w ∷ ws) = settles_each clash (λ k b. lower tests rows new b k) (λ k slot. k == slot) (λ k. settles_one clash k) ranged.keys

    settles_seen : Settles clash (λ best. lowest_by_ranges tests rows new counts unwritten kept (lowest_by_reads tests rows new counts unwritten kept best))
        (λ slot. seen_looks counts unwritten written kept new slot)
    settles_seen =
        settles_then
        (settles_each clash (λ r b. cond (counts new r.name) (lowest_by_read tests rows new kept r b) b)
        (λ r slot. read_looks counts unwritten written kept new slot r) settles_read new.reads)
        (settles_if clash unwritten
        (settles_each clash (λ q b. lowest_by_range tests rows new kept q b) (λ q slot. range_looks counts unwritten written kept slot q) settles_range new.ranges))

    settles_written : Settles clash (λ best. lowest_ranged tests rows new kept.ranged new.writes (lowest_by_writes tests rows new counts unwritten kept best))
        (λ slot. written_looks counts unwritten written kept new.writes slot)
    settles_written =
        settles_then
        (settles_each clash (λ w b. lowest_at tests rows new (places_of kept.readers w.name) b) (λ w slot. has_slot (places_of kept.readers w.name) slot)
        (λ w. settles_at (places_of kept.readers w.name)) new.writes)
        (settles_ranged kept.ranged new.writes)

    -- The lowest slot that clashes among the rows in the payload's way gives the vote.
    pub way_gives_vote : IsIndexOf counts unwritten kept rows
        → vote_at rows (lowest_in_way tests rows new counts unwritten kept) ≡ vote_on tests rows new
    way_gives_vote index =
        let settles : Settles clash
        (λ best. lowest_ranged tests rows new kept.ranged new.writes (lowest_by_writes tests rows new counts unwritten kept
        (lowest_by_ranges tests rows new counts unwritten kept (lowest_by_reads tests rows new counts unwritten kept best)))) looked =
        settles_then settles_seen settles_written in
        vote_by_lowest tests new rows index.rise (lowest_in_way tests rows new counts unwritten kept)
        (λ slot e. elim (settles.sound None slot e) [ inl clashing ↦ clashing | inr none ↦ absurd cc ])
        (λ slot clashing. settles.settled None slot (slot_looked_at index.objects rows index.fit index.keeps slot clashing) clashing)
