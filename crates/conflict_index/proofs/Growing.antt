-- Sets of an index that grow, and that change at one slot.
use Rattle.std.proofs.Common.{◌≡◌, ℕ, ◌+◌, ◌<◌, Bool, true, false, not, ◌||◌, List, [], ◌∷◌, length, get_or, take, refl, sym, ap, ◌∙◌, subst, inl, inr}
use Rattle.std.specs.List.{list_all, list_any}
use Rattle.std.specs.BTreeSet.{BTreeSet, contains, Updates}
use Rattle.std.specs.BTreeMap.{is_at}
use Rattle.std.specs.Ordering.{nat_cmp}
use Rattle.std.specs.declared.cmp.Ordering.{Ordering}
use Rattle.std.proofs.lemmas.Bool.{cond_both, cond-false, and_parts, and_from, false_from_ne_true, not-true, not_from_false, cases_Bool, both_ways, or_cases, or_left, or_right}
use Rattle.std.proofs.lemmas.List.Folds.{list_all_more}
use Rattle.conflict_index.specs.declared.kept.Kept.{Kept}
use Rattle.conflict_index.specs.declared.places.Place.{Place}
use Rattle.conflict_index.specs.Change.{Grows, Gains, KeepsMore, ChangesSlot}
use Rattle.conflict_index.specs.Keeping.{place_cmp, object_cmp, all_kept, AreObjectsOf}
use Rattle.conflict_index.proofs.Touching.{exact_places}

pub grows_then : {K : Type 0} (cmp : K → K → Ordering) (a b c : BTreeSet K) → Grows cmp a b → Grows cmp b c → Grows cmp a c
grows_then cmp a b c first second = record { keeps = λ q kept. second.keeps q (first.keeps q kept) }

pub grows_with : {K : Type 0} (cmp : K → K → Ordering) (before after : BTreeSet K) (k : K) → Updates cmp before after k true → Grows cmp before after
grows_with cmp before after k updates = record {
  keeps = λ q kept. updates.0 q
      ∙ cond_both (is_at (cmp k) q) true (contains cmp before q) (λ b. b ≡ true) (λ _. refl) (λ _. kept);
}

pub more_then : (a b c : Kept) → KeepsMore a b → KeepsMore b c → KeepsMore a c
more_then a b c first second = record {
  writes = grows_then place_cmp a.writes b.writes c.writes first.writes second.writes;
  writers = grows_then place_cmp a.writers b.writers c.writers first.writers second.writers;
  readers = grows_then place_cmp a.readers b.readers c.readers first.readers second.readers;
  ranged = grows_then nat_cmp a.ranged b.ranged c.ranged first.ranged second.ranged;
  objects = λ are. second.objects (first.objects are);
}

pub all_grow : {X : Type 0} (f g : X → Bool) → ((x : X) → f x ≡ true → g x ≡ true) → (xs : List X)
    → list_all f xs ≡ true → list_all g xs ≡ true
all_grow f g h [] each = refl
all_grow f g h (x ∷ xs) each =
    let parts = and_parts (f x) (list_all f xs) each in
    and_from (g x) (list_all g xs) (h x parts.0) (all_grow f g h xs parts.1)

-- what a set keeps stays kept as it grows
pub kept_still : {X : Type 0} (at : X → Place) (before after : BTreeSet Place) → Grows place_cmp before after
    → (parts : List X) → all_kept before at parts ≡ true → all_kept after at parts ≡ true
kept_still at before after grows parts kept =
    all_grow (λ x. contains place_cmp before (at x)) (λ x. contains place_cmp after (at x)) (λ x here. grows.keeps (at x) here) parts kept

-- one part more is kept
pub kept_more : {X : Type 0} (at : X → Place) (before after : BTreeSet Place) → Grows place_cmp before after
    → (parts : List X) (i : ℕ) (d : X) → i < length parts → all_kept before at (take i parts) ≡ true
    → d ≡ get_or parts i d → contains place_cmp after (at d) ≡ true
    → all_kept after at (take (i + 1) parts) ≡ true
kept_more at before after grows parts i d within kept is here =
    list_all_more (λ x. contains place_cmp after (at x)) parts i d within
    ∙ and_from _ _ (kept_still at before after grows (take i parts) kept)
    (ap (λ x. contains place_cmp after (at x)) (sym is) ∙ here)

-- what is removed at a slot leaves the others
pub changes_without : (at : Place) (before after : BTreeSet Place)
    → Updates place_cmp before after at false → ChangesSlot at.slot before after
changes_without at before after updates = record {
  none_new = λ q absent. updates.0 q
      ∙ cond_both (is_at (place_cmp at) q) false (contains place_cmp before q) (λ b. b ≡ false) (λ _. refl) (λ _. absent);
  others = λ q other. updates.0 q ∙ cond-false (is_at (place_cmp at) q) false (contains place_cmp before q)
      (false_from_ne_true _ (λ here. other (ap (λ p. p.slot) (sym (exact_places at q here)))));
}

pub changes_then : (slot : ℕ) (a b c : BTreeSet Place) → ChangesSlot slot a b → ChangesSlot slot b c → ChangesSlot slot a c
changes_then slot a b c first second = record {
  none_new = λ q absent. second.none_new q (first.none_new q absent);
  others = λ q other. second.others q other ∙ first.others q other;
}

-- what is gone stays gone, and one part more is
pub gone_more : {X : Type 0} (at : X → Place) (slot : ℕ) (before after : BTreeSet Place) → ChangesSlot slot before after
    → (parts : List X) (i : ℕ) (d : X) → i < length parts
    → list_all (λ x. not (contains place_cmp before (at x))) (take i parts) ≡ true
    → d ≡ get_or parts i d → contains place_cmp after (at d) ≡ false
    → list_all (λ x. not (contains place_cmp after (at x))) (take (i + 1) parts) ≡ true
gone_more {X} at slot before after changes parts i d within gone is here =
    let absent : X → Bool = λ x. not (contains place_cmp after (at x)) in
    list_all_more absent parts i d within
    ∙ and_from _ _
    (all_grow (λ x. not (contains place_cmp before (at x))) absent
    (λ x out. not_from_false _ (changes.none_new (at x) (not-true _ out))) (take i parts) gone)
    (ap absent (sym is) ∙ not_from_false _ here)

-- a place that is set is the only one that is new
pub gains_with : (at : Place) (before after : BTreeSet Place) → Updates place_cmp before after at true → Gains at before after
gains_with at before after updates = record {
  none_else = λ q kept. (elim (cases_Bool (is_at (place_cmp at) q)) [
    | inl here ↦ inl (exact_places at q here)
    | inr past ↦ inr (sym (cond-false (is_at (place_cmp at) q) true (contains place_cmp before q) past) ∙ sym (updates.0 q) ∙ kept)
  ]);
}

-- where there is no place no object need be kept
pub objects_of_none : (objects : BTreeSet (List ℕ)) (places : BTreeSet Place) → places.keys ≡ [] → AreObjectsOf objects places
objects_of_none objects places none = record {
  has = λ at kept. absurd (let no : false ≡ true = sym (ap (λ ks. list_any (is_at (place_cmp at)) ks) none) ∙ kept in cc);
}

-- the object of each place stays kept as more objects are, and where it is kept of the one place that is new
pub objects_grown : (objects objects' : BTreeSet (List ℕ)) (places : BTreeSet Place) → Grows object_cmp objects objects'
    → AreObjectsOf objects places → AreObjectsOf objects' places
objects_grown objects objects' places grows are = record { has = λ q kept. grows.keeps q.object (are.has q kept) }

pub objects_with : (objects objects' : BTreeSet (List ℕ)) (places places' : BTreeSet Place) (at : Place)
    → Grows object_cmp objects objects' → contains object_cmp objects' at.object ≡ true
    → Gains at places places' → AreObjectsOf objects places → AreObjectsOf objects' places'
objects_with objects objects' places places' at grows there gains are = record {
  has = λ q kept. (elim (gains.none_else q kept) [
    | inl same ↦ subst (λ p. contains object_cmp objects' p.object ≡ true) same there
    | inr was ↦ grows.keeps q.object (are.has q was)
  ]);
}

-- and as places become fewer
pub objects_fewer : (objects : BTreeSet (List ℕ)) (slot : ℕ) (places places' : BTreeSet Place) → ChangesSlot slot places places'
    → AreObjectsOf objects places → AreObjectsOf objects places'
objects_fewer objects slot places places' changes are = record {
  has = λ q kept. are.has q (elim (cases_Bool (contains place_cmp places q)) [
    | inl was ↦ was
    | inr never ↦ absurd (both_ways _ (changes.none_new q never) kept)
  ]);
}

-- one part more is kept where it counts
pub counted_more : {X : Type 0} (counts : X → Bool) (at : X → Place) (before after : BTreeSet Place) → Grows place_cmp before after
    → (parts : List X) (i : ℕ) (d : X) → i < length parts
    → list_all (λ x. not (counts x) || contains place_cmp before (at x)) (take i parts) ≡ true
    → d ≡ get_or parts i d → (not (counts d) || contains place_cmp after (at d)) ≡ true
    → list_all (λ x. not (counts x) || contains place_cmp after (at x)) (take (i + 1) parts) ≡ true
counted_more {X} counts at before after grows parts i d within kept is here =
    let now : X → Bool = λ x. not (counts x) || contains place_cmp after (at x) in
    list_all_more now parts i d within
    ∙ and_from _ _
    (all_grow (λ x. not (counts x) || contains place_cmp before (at x)) now
    (λ x was. elim (or_cases (not (counts x)) (contains place_cmp before (at x)) was) [
      | inl out ↦ or_left (not (counts x)) (contains place_cmp after (at x)) out
      | inr there ↦ or_right (not (counts x)) (contains place_cmp after (at x)) (grows.keeps (at x) there)
    ]) (take i parts) kept)
    (ap now (sym is) ∙ here)
