-- What a payload saw, and what counts of it, is looked at.
use Rattle.std.proofs.Common.{◌≡◌, ℕ, ◌^◌, ◌<◌, Bool, true, false, not, ◌&&◌, ◌||◌, List, [], ◌∷◌, length, refl, sym, ap, ◌∙◌, subst, inl, inr, arith}
use Rattle.std.specs.Prelude.{◌==◌, nat_lt, is_some, find, Option, Some, None, All, IsTrue, ◌⊎◌}
use Rattle.std.specs.List.{list_any, list_all}
use Rattle.std.specs.BTreeSet.{BTreeSet, contains}
use Rattle.std.specs.BTreeMap.{is_at}
use Rattle.std.specs.Cmp.Lexicographic.{same_text}
use Rattle.std.specs.Ordering.{nat_cmp, is_eq}
use Rattle.std.specs.declared.cmp.Ordering.{Ordering}
use Rattle.std.specs.declared.cmp.Ordering.TheVariants.{Less, Equal, Greater}
use Rattle.std.proofs.lemmas.List.Elements.{All-head, All-tail}
use Rattle.std.proofs.lemmas.Map.Lookups.{exact_unsigned}
use Rattle.std.proofs.lemmas.Bool.{cond_both, cond-true, cond-false, and_parts, and_from, or_cases, or_left, or_right, eq-eqb, ne_eqb, both_ways, cases_Bool, not-true, ltb-true}
use Rattle.tcs_terms.specs.declared.payloads.ReadPart.{ReadPart}
use Rattle.tcs_terms.specs.declared.payloads.RangePart.{RangePart}
use Rattle.tcs_terms.specs.declared.payloads.WritePart.{WritePart}
use Rattle.tcs_terms.specs.Payloads.{Accesses, IsPayload, IsRangePart, IsWritePart, same_name}
use Rattle.tcs_terms.specs.Shards.{seen, in_range_part, version_seen, range_version}
use Rattle.tcs_laws.specs.Sight.{counted, CountsWritten}
use Rattle.tcs_laws.specs.Writing.{seen_below}
use Rattle.tcs_laws.proofs.ListLemmas.{all_at, find_some}
use Rattle.tcs_laws.proofs.SightLaws.{written_read}
use Rattle.conflict_index.specs.declared.kept.Kept.{Kept}
use Rattle.conflict_index.specs.Candidates.{places_of, places_above, places_in, objects_in}
use Rattle.conflict_index.specs.Keeping.{place, place_cmp, all_kept, AreObjectsOf}
use Rattle.conflict_index.proofs.Touching.{has_slot, any_more, own_looked_at, above_looked_at, range_looked_at, object_looked_at}

-- what a search finds passes both its test and another
any_found : {X : Type 0} (f g : X → Bool) (xs : List X) (x : X) → find f xs ≡ Some x → g x ≡ true
    → list_any (λ y. f y && g y) xs ≡ true
any_found f g [] x e passes = absurd cc
any_found f g (y ∷ ys) x e passes =
    elim (cases_Bool (f y)) [
      | inl here ↦ or_left (f y && g y) (list_any (λ z. f z && g z) ys) (and_from (f y) (g y) here
          (let one : Some y ≡ Some x = sym (cond-true (f y) (Some y) (find f ys) here) ∙ e in
          let same : y ≡ x = cc in subst (λ z. g z ≡ true) (sym same) passes))
      | inr past ↦ or_right (f y && g y) (list_any (λ z. f z && g z) ys)
          (any_found f g ys x (sym (cond-false (f y) (Some y) (find f ys) past) ∙ e) passes)
    ]

-- one of the elements that passes a test, where all are kept
any_of_kept : {X : Type 0} (f keep : X → Bool) (Q : X → Type 0) (goal : Bool)
    → ((x : X) → Q x → keep x ≡ true → f x ≡ true → goal ≡ true)
    → (xs : List X) → All Q xs → list_all keep xs ≡ true → list_any f xs ≡ true → goal ≡ true
any_of_kept f keep Q goal h [] formed kept found = absurd (let no : false ≡ true = found in cc)
any_of_kept f keep Q goal h (x ∷ xs) formed kept found =
    let parts = and_parts (keep x) (list_all keep xs) kept in
    elim (or_cases (f x) (list_any f xs) found) [
      | inl here ↦ h x (All-head Q x xs formed) parts.0 here
      | inr later ↦ any_of_kept f keep Q goal h xs (All-tail Q x xs formed) parts.1 later
    ]

-- by which read or range an object was seen, where the version that was seen passes a test
abbrev by_name : (Option ℕ → Bool) → Accesses → List ℕ → Bool
by_name f p name = list_any (λ r. same_name r.name name && f (Some r.version)) p.reads

abbrev by_range : (Option ℕ → Bool) → Accesses → List ℕ → Bool
by_range f p name = list_any (λ q. in_range_part name q && f (Some q.version)) p.ranges

sight_cases : (f : Option ℕ → Bool) → f None ≡ false → (p : Accesses) (name : List ℕ) → f (seen p name) ≡ true
    → (by_name f p name ≡ true) ⊎ ((list_any (λ r. same_name r.name name) p.reads ≡ false) × (by_range f p name ≡ true))
sight_cases f none p name hit = go (find (λ r. same_name r.name name) p.reads) refl (find (in_range_part name) p.ranges) refl hit where
  go : (r : Option ReadPart) → find (λ r. same_name r.name name) p.reads ≡ r → (q : Option RangePart)
      → find (in_range_part name) p.ranges ≡ q → f (version_seen r (range_version q)) ≡ true
      → (by_name f p name ≡ true) ⊎ ((list_any (λ r. same_name r.name name) p.reads ≡ false) × (by_range f p name ≡ true))
  go (Some r) read q ranged e = inl (any_found (λ r. same_name r.name name) (λ r. f (Some r.version)) p.reads r read e)
  go None read (Some q) ranged e = inr (
    sym (find_some (λ r. same_name r.name name) p.reads) ∙ ap is_some read,
    any_found (in_range_part name) (λ q. f (Some q.version)) p.ranges q ranged e,
  )
  go None read None ranged e = absurd (both_ways _ none e)

no_range_empty : (f : RangePart → Bool) (ranges : List RangePart) → list_any f ranges ≡ true → (length ranges == 0) ≡ false
no_range_empty f [] found = absurd (let no : false ≡ true = found in cc)
no_range_empty f (q ∷ qs) found = ne_eqb (length (q ∷ qs)) 0 (λ none. omega arith)

ranges_look : (f look : RangePart → Bool) → ((q : RangePart) → IsRangePart q → f q ≡ true → look q ≡ true)
    → (ranges : List RangePart) → All IsRangePart ranges → list_any f ranges ≡ true → list_any look ranges ≡ true
ranges_look f look h [] formed found = found
ranges_look f look h (q ∷ qs) formed found =
    elim (or_cases (f q) (list_any f qs) found) [
      | inl here ↦ or_left (look q) (list_any look qs) (h q (All-head IsRangePart q qs formed) here)
      | inr later ↦ or_right (look q) (list_any look qs) (ranges_look f look h qs (All-tail IsRangePart q qs formed) later)
    ]

is_equal : (o : Ordering) → is_eq o ≡ true → o ≡ Equal
is_equal Equal e = refl
is_equal Less e = absurd (let no : false ≡ true = e in cc)
is_equal Greater e = absurd (let no : false ≡ true = e in cc)

kept_ranged : (ranged : BTreeSet ℕ) (slot : ℕ) → contains nat_cmp ranged slot ≡ true → list_any (λ k. k == slot) ranged.keys ≡ true
kept_ranged ranged slot kept =
    any_more (is_at (nat_cmp slot)) (λ k. k == slot)
    (λ k same. eq-eqb k slot (sym (exact_unsigned slot k (is_equal (nat_cmp slot k) same)))) ranged.keys kept

-- the rows with ranges are looked at where something is written
abbrev pub ranged_slots : BTreeSet ℕ → List WritePart → List ℕ
ranged_slots ranged [] = []
ranged_slots ranged (w ∷ ws) = ranged.keys

ranged_more : (ranged : BTreeSet ℕ) (slot : ℕ) (ws : List WritePart) → list_any (λ k. k == slot) (ranged_slots ranged ws) ≡ true
    → list_any (λ k. k == slot) ranged.keys ≡ true
ranged_more ranged slot [] none = absurd (let no : false ≡ true = none in cc)
ranged_more ranged slot (v ∷ vs) found = found

module _ (counts : Accesses → List ℕ → Bool) (unwritten : Bool) (written : IsTrue (not unwritten) → CountsWritten counts) where
  -- what counts was read by name, or by a range where that counts
  counted_cases : (f : Option ℕ → Bool) → f None ≡ false → (p : Accesses) → IsPayload p → (name : List ℕ)
      → f (counted counts p name) ≡ true
      → ((counts p name ≡ true) × (by_name f p name ≡ true)) ⊎ ((unwritten ≡ true) × (by_range f p name ≡ true))
  counted_cases f none p formed name hit =
      cond_both (counts p name) (seen p name) None
      (λ o. f o ≡ true → ((counts p name ≡ true) × (by_name f p name ≡ true)) ⊎ ((unwritten ≡ true) × (by_range f p name ≡ true)))
      (λ counting seeing. elim (sight_cases f none p name seeing) [
        | inl named ↦ inl (counting, named)
        | inr unnamed ↦ elim (cases_Bool unwritten) [
          | inl may ↦ inr (may, unnamed.1)
          | inr never ↦ absurd (both_ways _ unnamed.0 (written_read p formed name ((written (ap not never)).written p name counting)))
        ]
      ])
      (λ _ blind. absurd (both_ways _ none blind)) hit

  module _ (kept : Kept) where
    -- the slots that are looked at for what the newer payload read by name, and for its ranges
    abbrev pub read_looks : Accesses → ℕ → ReadPart → Bool
    read_looks new slot r = counts new r.name
        && (has_slot (places_of kept.writers r.name) slot || has_slot (places_above kept.writes r.name r.version) slot)

    abbrev pub range_looks : ℕ → RangePart → Bool
    range_looks slot q = has_slot (places_in kept.writers q) slot
        || list_any (λ o. has_slot (places_above kept.writes o q.version) slot) (objects_in kept.objects q)

    abbrev pub seen_looks : Accesses → ℕ → Bool
    seen_looks new slot = list_any (read_looks new slot) new.reads || (unwritten && list_any (range_looks slot) new.ranges)

    module _ (new : Accesses) (formed : IsPayload new) (version slot : ℕ) (fits : version < 2 ^ 64) (few : slot < 2 ^ 16) where
      -- a place above what was seen of its object is looked at
      above_sight : AreObjectsOf kept.objects kept.writes → (w : WritePart) → IsWritePart w
          → contains place_cmp kept.writes (place w.name version slot) ≡ true
          → seen_below (counted counts new w.name) version ≡ true → seen_looks new slot ≡ true
      above_sight objects w is_write there hit =
          let reads : Bool = list_any (read_looks new slot) new.reads in
          let ranges : Bool = unwritten && list_any (range_looks slot) new.ranges in
          elim (counted_cases (λ o. seen_below o version) refl new formed w.name hit) [
            | inl named ↦ or_left reads ranges (any_more (λ r. same_name r.name w.name && nat_lt r.version version) (read_looks new slot)
                (λ r both.
                let parts = and_parts (same_name r.name w.name) (nat_lt r.version version) both in
                let one : w.name ≡ r.name = sym (same_text r.name w.name (sym parts.0)) in
                and_from (counts new r.name) _ (subst (λ x. counts new x ≡ true) one named.0)
                (or_right (has_slot (places_of kept.writers r.name) slot) (has_slot (places_above kept.writes r.name r.version) slot)
                (above_looked_at kept.writes r.name r.version version slot (ltb-true r.version version parts.1) fits few
                (subst (λ x. contains place_cmp kept.writes (place x version slot) ≡ true) one there))))
                new.reads named.1)
            | inr ranging ↦ or_right reads ranges (and_from unwritten (list_any (range_looks slot) new.ranges) ranging.0
                (ranges_look (λ q. in_range_part w.name q && nat_lt q.version version) (range_looks slot)
                (λ q is_range both.
                let parts = and_parts (in_range_part w.name q) (nat_lt q.version version) both in
                or_right (has_slot (places_in kept.writers q) slot)
                (list_any (λ o. has_slot (places_above kept.writes o q.version) slot) (objects_in kept.objects q))
                (object_looked_at kept.objects w.name q (λ o. has_slot (places_above kept.writes o q.version) slot) parts.0
                (objects.has (place w.name version slot) there)
                (above_looked_at kept.writes w.name q.version version slot (ltb-true q.version version parts.1) fits few there)))
                new.ranges formed.range_parts ranging.1))
          ]

      -- a live writer of what was seen is looked at
      live_sight : (w : WritePart) → IsWritePart w → contains place_cmp kept.writers (place w.name version slot) ≡ true
          → is_some (counted counts new w.name) ≡ true → seen_looks new slot ≡ true
      live_sight w is_write there hit =
          let reads : Bool = list_any (read_looks new slot) new.reads in
          let ranges : Bool = unwritten && list_any (range_looks slot) new.ranges in
          elim (counted_cases is_some refl new formed w.name hit) [
            | inl named ↦ or_left reads ranges (any_more (λ r. same_name r.name w.name && is_some (Some r.version)) (read_looks new slot)
                (λ r both.
                let parts = and_parts (same_name r.name w.name) (is_some (Some r.version)) both in
                let one : w.name ≡ r.name = sym (same_text r.name w.name (sym parts.0)) in
                and_from (counts new r.name) _ (subst (λ x. counts new x ≡ true) one named.0)
                (or_left (has_slot (places_of kept.writers r.name) slot) (has_slot (places_above kept.writes r.name r.version) slot)
                (own_looked_at kept.writers r.name version slot fits few
                (subst (λ x. contains place_cmp kept.writers (place x version slot) ≡ true) one there))))
                new.reads named.1)
            | inr ranging ↦ or_right reads ranges (and_from unwritten (list_any (range_looks slot) new.ranges) ranging.0
                (ranges_look (λ q. in_range_part w.name q && is_some (Some q.version)) (range_looks slot)
                (λ q is_range both.
                or_left (has_slot (places_in kept.writers q) slot)
                (list_any (λ o. has_slot (places_above kept.writes o q.version) slot) (objects_in kept.objects q))
                (range_looked_at kept.writers w.name version slot q
                (and_parts (in_range_part w.name q) (is_some (Some q.version)) both).0 there))
                new.ranges formed.range_parts ranging.1))
          ]

      -- A row that overwrote what was seen is looked at, and so is a live one that writes it.
      pub past_looked_at : AreObjectsOf kept.objects kept.writes → (parts : List WritePart) → All IsWritePart parts
          → all_kept kept.writes (λ w. place w.name version slot) parts ≡ true
          → list_any (λ w. seen_below (counted counts new w.name) version) parts ≡ true → seen_looks new slot ≡ true
      past_looked_at objects parts named there hit =
          any_of_kept (λ w. seen_below (counted counts new w.name) version) (λ w. contains place_cmp kept.writes (place w.name version slot))
          IsWritePart (seen_looks new slot) (above_sight objects) parts named there hit

      pub writers_looked_at : (parts : List WritePart) → All IsWritePart parts
          → all_kept kept.writers (λ w. place w.name version slot) parts ≡ true
          → list_any (λ w. is_some (counted counts new w.name)) parts ≡ true → seen_looks new slot ≡ true
      writers_looked_at parts named there hit =
          any_of_kept (λ w. is_some (counted counts new w.name)) (λ w. contains place_cmp kept.writers (place w.name version slot))
          IsWritePart (seen_looks new slot) live_sight parts named there hit

    -- the slots that are looked at for what the newer payload writes
    abbrev pub written_looks : List WritePart → ℕ → Bool
    written_looks parts slot = list_any (λ w. has_slot (places_of kept.readers w.name) slot) parts
        || list_any (λ k. k == slot) (ranged_slots kept.ranged parts)

    -- A live row that saw one of the objects that are written is looked at.
    pub readers_looked_at : (slot : ℕ) → slot < 2 ^ 16 → (old : Accesses) → IsPayload old
        → list_all (λ r. not (counts old r.name) || contains place_cmp kept.readers (place r.name old.version slot)) old.reads ≡ true
        → (not unwritten || ((length old.ranges == 0) || contains nat_cmp kept.ranged slot)) ≡ true
        → (parts : List WritePart) → list_any (λ w. is_some (counted counts old w.name)) parts ≡ true
        → written_looks parts slot ≡ true
    readers_looked_at slot few old formed reads ranges [] hit = absurd (let no : false ≡ true = hit in cc)
    readers_looked_at slot few old formed reads ranges (w ∷ ws) hit =
        let named : Bool = has_slot (places_of kept.readers w.name) slot in
        let more : Bool = list_any (λ w. has_slot (places_of kept.readers w.name) slot) ws in
        let ranged : Bool = list_any (λ k. k == slot) kept.ranged.keys in
        elim (or_cases (is_some (counted counts old w.name)) (list_any (λ w. is_some (counted counts old w.name)) ws) hit) [
          | inl here ↦ elim (counted_cases is_some refl old formed w.name here) [
            | inl read ↦
                let kept_there : (not (counts old w.name) || contains place_cmp kept.readers (place w.name old.version slot)) ≡ true =
                all_at (λ r. same_name r.name w.name && is_some (Some r.version))
                (λ r. not (counts old r.name) || contains place_cmp kept.readers (place r.name old.version slot))
                (not (counts old w.name) || contains place_cmp kept.readers (place w.name old.version slot))
                (λ r both. ap (λ x. not (counts old x) || contains place_cmp kept.readers (place x old.version slot))
                (same_text r.name w.name (sym (and_parts (same_name r.name w.name) (is_some (Some r.version)) both).0)))
                old.reads read.1 reads in
                or_left (named || more) ranged (or_left named more
                (elim (or_cases (not (counts old w.name)) (contains place_cmp kept.readers (place w.name old.version slot)) kept_there) [
                  | inl out ↦ absurd (both_ways _ (not-true _ out) read.0)
                  | inr there ↦ own_looked_at kept.readers w.name old.version slot formed.version_fits few there
                ]))
            | inr ranging ↦ or_right (named || more) ranged (kept_ranged kept.ranged slot
                (elim (or_cases (not unwritten) ((length old.ranges == 0) || contains nat_cmp kept.ranged slot) ranges) [
                  | inl never ↦ absurd (both_ways _ (not-true _ never) ranging.0)
                  | inr either ↦ (let some = no_range_empty (λ q. in_range_part w.name q && is_some (Some q.version)) old.ranges ranging.1 in
                      elim (or_cases (length old.ranges == 0) (contains nat_cmp kept.ranged slot) either) [
                        | inl none ↦ absurd (both_ways _ some none)
                        | inr there ↦ there
                      ])
                ]))
          ]
          | inr later ↦ elim (or_cases more (list_any (λ k. k == slot) (ranged_slots kept.ranged ws)) (readers_looked_at slot few old formed reads ranges ws later)) [
            | inl found ↦ or_left (named || more) ranged (or_right named more found)
            | inr ranging ↦ or_right (named || more) ranged (ranged_more kept.ranged slot ws ranging)
          ]
        ]
