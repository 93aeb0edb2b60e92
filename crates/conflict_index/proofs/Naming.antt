-- The ends of what is looked at are in order.
use Rattle.std.proofs.Common.{◌≡◌, ℕ, ◌-◌, ◌^◌, ◌<◌, ◌≤◌, true, false, List, [], ◌∷◌, refl, ap, arith}
use Rattle.std.specs.Cmp.Lexicographic.{slice_cmp}
use Rattle.std.specs.Ordering.{nat_cmp, ordering_then, MatchOrdering}
use Rattle.std.specs.Cmp.{nat_cmp_is, ranks}
use Rattle.std.specs.declared.cmp.Ordering.{Ordering}
use Rattle.std.specs.declared.cmp.Ordering.TheVariants.{Less, Equal, Greater}
use Rattle.std.specs.Ordering.{is_gt, is_lt}
use Rattle.std.specs.BTreeMap.Range.{IsLeBy}
use Rattle.tcs_terms.specs.declared.payloads.RangePart.{RangePart}
use Rattle.tcs_terms.specs.Order.{name_before}
use Rattle.conflict_index.specs.Keeping.{place, place_cmp, object_cmp}

-- bytes are equal to themselves
pub same_cmp : (a : List ℕ) → slice_cmp nat_cmp a a ≡ Equal
same_cmp [] = refl
same_cmp (x ∷ xs) = let here : Equal ≡ nat_cmp x x = nat_cmp_is x x Equal refl in rw (← here) (same_cmp xs)

-- the ends of an object, of what stands above a version of it, and of a range are in order
later_pair : (a b c d : ℕ) → a ≤ b → (a ≡ b → c ≤ d) → is_gt (ordering_then (nat_cmp a b) (nat_cmp c d)) ≡ false
later_pair a b c d low later = go (nat_cmp a b) (ranks a b) where
  last : (o : Ordering) → MatchOrdering o (c < d) (c ≡ d) (d < c) → c ≤ d → is_gt o ≡ false
  last Less r e = refl
  last Equal r e = refl
  last Greater r e = absurd (omega arith)

  go : (o : Ordering) → MatchOrdering o (a < b) (a ≡ b) (b < a) → is_gt (ordering_then o (nat_cmp c d)) ≡ false
  go Less r = refl
  go Equal r = last (nat_cmp c d) (ranks c d) (later r)
  go Greater r = absurd (omega arith)

pub own_forward : (name : List ℕ) → IsLeBy place_cmp (place name 0 0) (place name (2 ^ 64 - 1) 65535)
own_forward name = rw (same_cmp name) (later_pair 0 (2 ^ 64 - 1) 0 65535 (omega arith) (λ _. omega arith))

pub above_forward : (object : List ℕ) (version : ℕ) → version < 2 ^ 64
    → IsLeBy place_cmp (place object version 65535) (place object (2 ^ 64 - 1) 65535)
above_forward object version fits = rw (same_cmp object) (later_pair version (2 ^ 64 - 1) 65535 65535 (omega arith) (λ _. omega arith))

is_less : (o : Ordering) → is_lt o ≡ true → o ≡ Less
is_less Less e = refl
is_less Equal e = absurd (let no : false ≡ true = e in cc)
is_less Greater e = absurd (let no : false ≡ true = e in cc)

pub objects_forward : (q : RangePart) → name_before q.from q.upto ≡ true → IsLeBy object_cmp q.from q.upto
objects_forward q before = ap is_gt (is_less (slice_cmp nat_cmp q.from q.upto) before)

pub range_forward : (q : RangePart) → name_before q.from q.upto ≡ true → IsLeBy place_cmp (place q.from 0 0) (place q.upto 0 0)
range_forward q before =
    ap (λ o. is_gt (ordering_then o (ordering_then (nat_cmp 0 0) (nat_cmp 0 0)))) (is_less (slice_cmp nat_cmp q.from q.upto) before)
