-- Places that are kept are looked at.
use Rattle.std.proofs.Common.{◌≡◌, ℕ, ◌^◌, ◌-◌, ◌<◌, ◌≤◌, Bool, true, false, not, List, [], ◌∷◌, refl, sym, ap, ◌∙◌, subst, inl, inr, arith}
use Rattle.std.specs.Prelude.{◌==◌}
use Rattle.std.specs.List.{list_any}
use Rattle.std.specs.BTreeSet.{BTreeSet, contains, keys_between}
use Rattle.std.specs.BTreeMap.{is_at}
use Rattle.std.specs.BTreeMap.Range.{range_contains}
use Rattle.std.specs.declared.ops.Bound.{Bound}
use Rattle.std.specs.declared.ops.Bound.TheVariants.{Included, Excluded}
use Rattle.std.specs.Cmp.Lexicographic.{slice_cmp}
use Rattle.std.specs.Cmp.{ranks}
use Rattle.std.specs.Ordering.{nat_cmp, ordering_then, ordering_reverse, is_eq, is_le, is_lt, MatchOrdering}
use Rattle.std.specs.declared.cmp.Ordering.{Ordering}
use Rattle.std.specs.declared.cmp.Ordering.TheVariants.{Less, Equal, Greater}
use Rattle.std.proofs.lemmas.Cmp.{nat_list_cmp_total}
use Rattle.std.proofs.lemmas.Map.Views.{any-filter_same}
use Rattle.std.proofs.lemmas.Map.Lookups.{exact_bytes, exact_unsigned}
use Rattle.std.proofs.lemmas.Bool.{and_parts, and_from, or_cases, or_left, or_right, eq-eqb}
use Rattle.tcs_terms.specs.Order.{name_before}
use Rattle.tcs_terms.specs.declared.payloads.RangePart.{RangePart}
use Rattle.tcs_terms.specs.Shards.{in_range_part}
use Rattle.conflict_index.specs.declared.places.Place.{Place}
use Rattle.conflict_index.specs.Candidates.{places_of, places_above, places_in, objects_in}
use Rattle.conflict_index.specs.Keeping.{place, place_cmp, object_cmp}
use Rattle.conflict_index.proofs.Naming.{same_cmp}

-- whether a slot is among those of some places
abbrev pub has_slot : List Place → ℕ → Bool
has_slot places slot = list_any (λ p. p.slot == slot) places

-- places that compare equal are one
both_equal : (o p : Ordering) → is_eq (ordering_then o p) ≡ true → (o ≡ Equal) × (p ≡ Equal)
both_equal Equal Equal e = (refl, refl)
both_equal Equal Less e = absurd (let no : false ≡ true = e in cc)
both_equal Equal Greater e = absurd (let no : false ≡ true = e in cc)
both_equal Less p e = absurd (let no : false ≡ true = e in cc)
both_equal Greater p e = absurd (let no : false ≡ true = e in cc)

pub exact_places : (a b : Place) → is_eq (place_cmp a b) ≡ true → a ≡ b
exact_places a b e =
    let rest : Ordering = ordering_then (nat_cmp a.version b.version) (nat_cmp a.slot b.slot) in
    let parts = both_equal (slice_cmp nat_cmp a.object b.object) rest e in
    let numbers = both_equal (nat_cmp a.version b.version) (nat_cmp a.slot b.slot) (ap is_eq parts.1) in
    let by_object : List ℕ → Place = λ o. place o a.version a.slot in
    let by_version : ℕ → Place = λ v. place b.object v a.slot in
    let by_slot : ℕ → Place = λ s. place b.object b.version s in
    ap by_object (exact_bytes a.object b.object parts.0)
    ∙ ap by_version (exact_unsigned a.version b.version numbers.0) ∙ ap by_slot (exact_unsigned a.slot b.slot numbers.1)

-- a test that holds where another one does finds what that one finds
pub any_more : {X : Type 0} (f g : X → Bool) → ((x : X) → f x ≡ true → g x ≡ true) → (xs : List X)
    → list_any f xs ≡ true → list_any g xs ≡ true
any_more f g h [] found = found
any_more f g h (x ∷ xs) found =
    elim (or_cases (f x) (list_any f xs) found) [
      | inl here ↦ or_left (g x) (list_any g xs) (h x here)
      | inr later ↦ or_right (g x) (list_any g xs) (any_more f g h xs later)
    ]

-- a place that is kept and lies between two bounds is looked at
looked_at : (places : BTreeSet Place) (lo hi : Bound Place) (at : Place) → contains place_cmp places at ≡ true
    → range_contains place_cmp lo hi at ≡ true → has_slot (keys_between place_cmp lo hi places) at.slot ≡ true
looked_at places lo hi at kept between =
    any_more (is_at (place_cmp at)) (λ p. p.slot == at.slot)
    (λ p same. let one : at ≡ p = exact_places at p same in eq-eqb p.slot at.slot (ap (λ q. q.slot) (sym one)))
    (keys_between place_cmp lo hi places)
    (any-filter_same (is_at (place_cmp at)) (range_contains place_cmp lo hi) true
    (λ p same. let one : at ≡ p = exact_places at p same in subst (λ q. range_contains place_cmp lo hi q ≡ true) one between)
    places.keys ∙ kept)

-- numbers in order compare so
le_cmp : (n m : ℕ) → n ≤ m → is_le (nat_cmp n m) ≡ true
le_cmp n m h = go (nat_cmp n m) (ranks n m) where
  go : (o : Ordering) → MatchOrdering o (n < m) (n ≡ m) (m < n) → is_le o ≡ true
  go Less r = refl
  go Equal r = refl
  go Greater r = absurd (omega arith)

not_lt_cmp : (n m : ℕ) → m ≤ n → not (is_lt (nat_cmp n m)) ≡ true
not_lt_cmp n m h = go (nat_cmp n m) (ranks n m) where
  go : (o : Ordering) → MatchOrdering o (n < m) (n ≡ m) (m < n) → not (is_lt o) ≡ true
  go Less r = absurd (omega arith)
  go Equal r = refl
  go Greater r = refl

-- pairs of numbers in order do too
le_pairs : (a b c d : ℕ) → a ≤ b → (a ≡ b → c ≤ d) → is_le (ordering_then (nat_cmp a b) (nat_cmp c d)) ≡ true
le_pairs a b c d low later = go (nat_cmp a b) (ranks a b) where
  go : (o : Ordering) → MatchOrdering o (a < b) (a ≡ b) (b < a) → is_le (ordering_then o (nat_cmp c d)) ≡ true
  go Less r = refl
  go Equal r = le_cmp c d (later r)
  go Greater r = absurd (omega arith)

not_lt_pairs : (a b c d : ℕ) → b ≤ a → (a ≡ b → d ≤ c) → not (is_lt (ordering_then (nat_cmp a b) (nat_cmp c d))) ≡ true
not_lt_pairs a b c d high later = go (nat_cmp a b) (ranks a b) where
  go : (o : Ordering) → MatchOrdering o (a < b) (a ≡ b) (b < a) → not (is_lt (ordering_then o (nat_cmp c d))) ≡ true
  go Less r = absurd (omega arith)
  go Equal r = not_lt_cmp c d (later r)
  go Greater r = refl

-- a place of an object lies between one before it and the last of the object
between_own : (object : List ℕ) (low first version slot : ℕ) → low ≤ version → (low ≡ version → first ≤ slot)
    → version < 2 ^ 64 → slot < 2 ^ 16
    → range_contains place_cmp (Included (place object low first)) (Included (place object (2 ^ 64 - 1) 65535)) (place object version slot) ≡ true
between_own object low first version slot above later fits few =
    let same = same_cmp object in
    let start : is_le (place_cmp (place object low first) (place object version slot)) ≡ true =
    rw same (le_pairs low version first slot above later) in
    let end : not (is_lt (place_cmp (place object (2 ^ 64 - 1) 65535) (place object version slot))) ≡ true =
    rw same (not_lt_pairs (2 ^ 64 - 1) version 65535 slot (omega arith) (λ _. omega arith)) in
    and_from (is_le (place_cmp (place object low first) (place object version slot)))
    (not (is_lt (place_cmp (place object (2 ^ 64 - 1) 65535) (place object version slot)))) start end

-- each place of an object is looked at, and each one above a version
pub own_looked_at : (places : BTreeSet Place) (name : List ℕ) (version slot : ℕ) → version < 2 ^ 64 → slot < 2 ^ 16
    → contains place_cmp places (place name version slot) ≡ true → has_slot (places_of places name) slot ≡ true
own_looked_at places name version slot fits few kept =
    looked_at places (Included (place name 0 0)) (Included (place name (2 ^ 64 - 1) 65535)) (place name version slot) kept
    (between_own name 0 0 version slot (omega arith) (λ _. omega arith) fits few)

pub above_looked_at : (places : BTreeSet Place) (name : List ℕ) (low version slot : ℕ) → low < version → version < 2 ^ 64
    → slot < 2 ^ 16 → contains place_cmp places (place name version slot) ≡ true
    → has_slot (places_above places name low) slot ≡ true
above_looked_at places name low version slot above fits few kept =
    looked_at places (Included (place name low 65535)) (Included (place name (2 ^ 64 - 1) 65535)) (place name version slot) kept
    (between_own name low 65535 version slot (omega arith) (λ same. absurd (omega arith)) fits few)

-- what stands at or after the beginning of a range, and before its end
from_start : (o rest : Ordering) → not (is_lt o) ≡ true → is_le rest ≡ true → is_le (ordering_then (ordering_reverse o) rest) ≡ true
from_start Less rest e low = absurd (let no : false ≡ true = e in cc)
from_start Equal rest e low = low
from_start Greater rest e low = refl

before_end : (o rest : Ordering) → is_lt o ≡ true → not (is_le (ordering_then (ordering_reverse o) rest)) ≡ true
before_end Less rest e = refl
before_end Equal rest e = absurd (let no : false ≡ true = e in cc)
before_end Greater rest e = absurd (let no : false ≡ true = e in cc)

-- how the ends of a range compare to an object
record Ends (name : List ℕ) (q : RangePart) : Type 0 where
  start : slice_cmp nat_cmp q.from name ≡ ordering_reverse (slice_cmp nat_cmp name q.from)
  end : slice_cmp nat_cmp q.upto name ≡ ordering_reverse (slice_cmp nat_cmp name q.upto)

ends_of : (name : List ℕ) (q : RangePart) → Ends name q
ends_of name q = record {
  start = nat_list_cmp_total.antisymm q.from name;
  end = nat_list_cmp_total.antisymm q.upto name;
}

-- the places of an object of a range are looked at, and so is the object
pub range_looked_at : (places : BTreeSet Place) (name : List ℕ) (version slot : ℕ) (q : RangePart)
    → in_range_part name q ≡ true → contains place_cmp places (place name version slot) ≡ true
    → has_slot (places_in places q) slot ≡ true
range_looked_at places name version slot q inside kept =
    let parts = and_parts (not (name_before name q.from)) (name_before name q.upto) inside in
    let ends = ends_of name q in
    let rest : Ordering = ordering_then (nat_cmp 0 version) (nat_cmp 0 slot) in
    let start = ends.start in
    let end = ends.end in
    let above : is_le (place_cmp (place q.from 0 0) (place name version slot)) ≡ true =
    rw start (from_start (slice_cmp nat_cmp name q.from) rest parts.0 (le_pairs 0 version 0 slot (omega arith) (λ _. omega arith))) in
    let below : not (is_le (place_cmp (place q.upto 0 0) (place name version slot))) ≡ true =
    rw end (before_end (slice_cmp nat_cmp name q.upto) rest parts.1) in
    looked_at places (Included (place q.from 0 0)) (Excluded (place q.upto 0 0)) (place name version slot) kept
    (and_from (is_le (place_cmp (place q.from 0 0) (place name version slot)))
    (not (is_le (place_cmp (place q.upto 0 0) (place name version slot)))) above below)

le_reverse : (o : Ordering) → not (is_lt o) ≡ true → is_le (ordering_reverse o) ≡ true
le_reverse Less e = absurd (let no : false ≡ true = e in cc)
le_reverse Equal e = refl
le_reverse Greater e = refl

not_le_reverse : (o : Ordering) → is_lt o ≡ true → not (is_le (ordering_reverse o)) ≡ true
not_le_reverse Less e = refl
not_le_reverse Equal e = absurd (let no : false ≡ true = e in cc)
not_le_reverse Greater e = absurd (let no : false ≡ true = e in cc)

pub object_looked_at : (objects : BTreeSet (List ℕ)) (name : List ℕ) (q : RangePart) (f : List ℕ → Bool)
    → in_range_part name q ≡ true → contains object_cmp objects name ≡ true → f name ≡ true
    → list_any f (objects_in objects q) ≡ true
object_looked_at objects name q f inside kept found =
    let parts = and_parts (not (name_before name q.from)) (name_before name q.upto) inside in
    let ends = ends_of name q in
    let start = ends.start in
    let end = ends.end in
    let above : is_le (object_cmp q.from name) ≡ true = rw start (le_reverse (slice_cmp nat_cmp name q.from) parts.0) in
    let below : not (is_le (object_cmp q.upto name)) ≡ true = rw end (not_le_reverse (slice_cmp nat_cmp name q.upto) parts.1) in
    let between : range_contains object_cmp (Included q.from) (Excluded q.upto) name ≡ true =
    and_from (is_le (object_cmp q.from name)) (not (is_le (object_cmp q.upto name))) above below in
    any_more (is_at (object_cmp name)) f
    (λ o same. let one : name ≡ o = exact_bytes name o (is_equal (object_cmp name o) same) in subst (λ x. f x ≡ true) one found)
    (objects_in objects q)
    (any-filter_same (is_at (object_cmp name)) (range_contains object_cmp (Included q.from) (Excluded q.upto)) true
    (λ o same. let one : name ≡ o = exact_bytes name o (is_equal (object_cmp name o) same) in
    subst (λ x. range_contains object_cmp (Included q.from) (Excluded q.upto) x ≡ true) one between)
    objects.keys ∙ kept) where
      is_equal : (o : Ordering) → is_eq o ≡ true → o ≡ Equal
      is_equal Equal e = refl
      is_equal Less e = absurd (let no : false ≡ true = e in cc)
      is_equal Greater e = absurd (let no : false ≡ true = e in cc)
