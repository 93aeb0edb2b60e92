-- Objects of a range that are cut in two are objects of two ranges, which meet at the first name of the second part.
use Rattle.std.proofs.Common.{◌≡◌, ℕ, ◌<◌, ◌≤◌, Bool, true, not, List, [], ◌∷◌, ◌++◌, length, map, take, drop, get_or, refl, sym, ap, subst, arith, length-drop}
use Rattle.std.specs.List.{list_all}
use Rattle.std.proofs.lemmas.List.{take-append-drop, length-take-le}
use Rattle.tcs_terms.specs.Order.{name_before, names_ascend}
use Rattle.tcs_terms.proofs.BoolLaws.{both, left_of, right_of, not_false}
use Rattle.tcs_terms.proofs.OrderLaws.{names_skip}
use Rattle.backup_machine.specs.declared.objects.Kept.{Kept}
use Rattle.backup_machine.specs.Objects.{in_range, is_kept_version, AreOf}
use Rattle.backup_machine.specs.Slices.{first_name}
use Rattle.backup_machine.proofs.Names.{least_before, not_both, not_itself}

abbrev names : List Kept → List (List ℕ)
names kept = map (λ (k : Kept). k.name) kept

-- a test that follows from two others
all_of : {X : Type 0} (p q r : X → Bool) → ((x : X) → p x ≡ true → q x ≡ true → r x ≡ true) → (xs : List X) → list_all p xs ≡ true → list_all q xs ≡ true → list_all r xs ≡ true
all_of p q r f [] h k = refl
all_of p q r f (x ∷ xs) h k =
    both (r x) (list_all r xs) (f x (left_of (p x) (list_all p xs) h) (left_of (q x) (list_all q xs) k))
    (all_of p q r f xs (right_of (p x) (list_all p xs) h) (right_of (q x) (list_all q xs) k))

front_of : {X : Type 0} (p : X → Bool) (xs ys : List X) → list_all p (xs ++ ys) ≡ true → list_all p xs ≡ true
front_of p [] ys h = refl
front_of p (x ∷ xs) ys h = both (p x) (list_all p xs) (left_of (p x) (list_all p (xs ++ ys)) h) (front_of p xs ys (right_of (p x) (list_all p (xs ++ ys)) h))

back_of : {X : Type 0} (p : X → Bool) (xs ys : List X) → list_all p (xs ++ ys) ≡ true → list_all p ys ≡ true
back_of p [] ys h = h
back_of p (x ∷ xs) ys h = back_of p xs ys (right_of (p x) (list_all p (xs ++ ys)) h)

-- what is known of objects that ascend, in two parts
record Cut (xs : List Kept) (y : Kept) (ys : List Kept) : Type 0 where
  front : names_ascend (names xs) ≡ true
  before : list_all (λ (k : Kept). name_before k.name y.name) xs ≡ true
  back : names_ascend (names (y ∷ ys)) ≡ true

ascend_apart : (xs : List Kept) (y : Kept) (ys : List Kept) → names_ascend (names (xs ++ y ∷ ys)) ≡ true → Cut xs y ys
ascend_apart [] y ys h = record { front = refl; before = refl; back = h }
ascend_apart (x ∷ []) y ys h = record {
  front = refl;
  before = both (name_before x.name y.name) true (left_of (name_before x.name y.name) (names_ascend (names (y ∷ ys))) h) refl;
  back = right_of (name_before x.name y.name) (names_ascend (names (y ∷ ys))) h;
}
ascend_apart (x ∷ z ∷ zs) y ys h = joined (ascend_apart (z ∷ zs) y ys (right_of (name_before x.name z.name) (names_ascend (names (z ∷ zs ++ y ∷ ys))) h))
  where
    first : name_before x.name z.name ≡ true
    first = left_of (name_before x.name z.name) (names_ascend (names (z ∷ zs ++ y ∷ ys))) h

    joined : Cut (z ∷ zs) y ys → Cut (x ∷ z ∷ zs) y ys
    joined rest = record {
      front = both (name_before x.name z.name) (names_ascend (names (z ∷ zs))) first rest.front;
      before = both (name_before x.name y.name) (list_all (λ (k : Kept). name_before k.name y.name) (z ∷ zs))
          (names_skip x.name z.name y.name first (left_of (name_before z.name y.name) (list_all (λ (k : Kept). name_before k.name y.name) zs) rest.before)) rest.before;
      back = rest.back;
    }

later : (x y : List ℕ) (ys : List Kept) → name_before x y ≡ true → names_ascend (y ∷ names ys) ≡ true → list_all (λ (k : Kept). not (name_before k.name x)) ys ≡ true
later x y [] before h = refl
later x y (k ∷ ks) before h =
    let skip = names_skip x y k.name before (left_of (name_before y k.name) (names_ascend (k.name ∷ names ks)) h) in
    both (not (name_before k.name x)) (list_all (λ (k : Kept). not (name_before k.name x)) ks) (ap not (not_both x k.name skip))
    (later x k.name ks skip (right_of (name_before y k.name) (names_ascend (k.name ∷ names ks)) h))

-- no object stands before the first one
none_before_first : (y : Kept) (ys : List Kept) → names_ascend (names (y ∷ ys)) ≡ true → list_all (λ (k : Kept). not (name_before k.name y.name)) (y ∷ ys) ≡ true
none_before_first y [] h = both (not (name_before y.name y.name)) true (ap not (not_itself y.name)) refl
none_before_first y (k ∷ ks) h =
    let first = left_of (name_before y.name k.name) (names_ascend (k.name ∷ names ks)) h in
    both (not (name_before y.name y.name)) (list_all (λ (k : Kept). not (name_before k.name y.name)) (k ∷ ks)) (ap not (not_itself y.name))
    (both (not (name_before k.name y.name)) (list_all (λ (k : Kept). not (name_before k.name y.name)) ks) (ap not (not_both y.name k.name first))
    (later y.name k.name ks first (right_of (name_before y.name k.name) (names_ascend (k.name ∷ names ks)) h)))

cut_at : (from upto : List ℕ) (x : Kept) (xs : List Kept) (y : Kept) (ys : List Kept) → AreOf from upto (x ∷ xs ++ y ∷ ys) → AreOf from y.name (x ∷ xs) × AreOf y.name upto (y ∷ ys)
cut_at from upto x xs y ys are = parts (ascend_apart (x ∷ xs) y ys are.ascend)
  where
    front_within : list_all (λ (k : Kept). in_range from upto k.name) (x ∷ xs) ≡ true
    front_within = front_of (λ (k : Kept). in_range from upto k.name) (x ∷ xs) (y ∷ ys) are.within

    back_within : list_all (λ (k : Kept). in_range from upto k.name) (y ∷ ys) ≡ true
    back_within = back_of (λ (k : Kept). in_range from upto k.name) (x ∷ xs) (y ∷ ys) are.within

    parts : Cut (x ∷ xs) y ys → AreOf from y.name (x ∷ xs) × AreOf y.name upto (y ∷ ys)
    parts c = (
      record {
        span = least_before x.name from y.name
            (not_false (name_before x.name from) (left_of (not (name_before x.name from)) (name_before x.name upto) (left_of (in_range from upto x.name) (list_all (λ (k : Kept). in_range from upto k.name) xs) front_within)))
            (left_of (name_before x.name y.name) (list_all (λ (k : Kept). name_before k.name y.name) xs) c.before);
        ascend = c.front;
        within = all_of (λ (k : Kept). in_range from upto k.name) (λ (k : Kept). name_before k.name y.name) (λ (k : Kept). in_range from y.name k.name)
            (λ (k : Kept) p q. both (not (name_before k.name from)) (name_before k.name y.name) (left_of (not (name_before k.name from)) (name_before k.name upto) p) q) (x ∷ xs) front_within c.before;
        versions = front_of (λ (k : Kept). is_kept_version k.version) (x ∷ xs) (y ∷ ys) are.versions;
      },
      record {
        span = right_of (not (name_before y.name from)) (name_before y.name upto) (left_of (in_range from upto y.name) (list_all (λ (k : Kept). in_range from upto k.name) ys) back_within);
        ascend = c.back;
        within = all_of (λ (k : Kept). in_range from upto k.name) (λ (k : Kept). not (name_before k.name y.name)) (λ (k : Kept). in_range y.name upto k.name)
            (λ (k : Kept) p q. both (not (name_before k.name y.name)) (name_before k.name upto) q (right_of (not (name_before k.name from)) (name_before k.name upto) p)) (y ∷ ys) back_within (none_before_first y ys c.back);
        versions = back_of (λ (k : Kept). is_kept_version k.version) (x ∷ xs) (y ∷ ys) are.versions;
      },
    )

cut_parts : (from upto : List ℕ) (xs ys : List Kept) → 1 ≤ length xs → 1 ≤ length ys → AreOf from upto (xs ++ ys) → AreOf from (first_name ys) xs × AreOf (first_name ys) upto ys
cut_parts from upto [] ys some more are = absurd (omega arith)
cut_parts from upto (x ∷ xs) [] some more are = absurd (omega arith)
cut_parts from upto (x ∷ xs) (y ∷ ys) some more are = cut_at from upto x xs y ys are

-- the first objects, and the others
pub cut_in_two : (from upto : List ℕ) (width : ℕ) (kept : List Kept) → 1 ≤ width → width < length kept → AreOf from upto kept
    → AreOf from (first_name (drop width kept)) (take width kept) × AreOf (first_name (drop width kept)) upto (drop width kept)
cut_in_two from upto width kept some more are =
    cut_parts from upto (take width kept) (drop width kept) (let h = length-take-le width kept (omega arith) in omega (arith, h, some))
    (let h = length-drop width kept in omega (arith, h, more)) (subst (λ (ks : List Kept). AreOf from upto ks) (sym (take-append-drop width kept)) are)

-- the name of the first one
pub named_first : (kept : List Kept) (k : Kept) → 1 ≤ length kept → (get_or kept 0 k).name ≡ first_name kept
named_first [] k some = absurd (omega arith)
named_first (x ∷ xs) k some = refl

-- the same, of the parts as the code has them
pub cut_here : (from upto : List ℕ) (width : ℕ) (kept front back : List Kept) (k : Kept) → 1 ≤ width → width < length kept → front ≡ take width kept → back ≡ drop width kept → AreOf from upto kept
    → AreOf from (get_or back 0 k).name front × AreOf (get_or back 0 k).name upto back
cut_here from upto width kept front back k some more f b are =
    rw (f, b, named_first (drop width kept) k (let h = length-drop width kept in omega (arith, h, more))) (cut_in_two from upto width kept some more are)
