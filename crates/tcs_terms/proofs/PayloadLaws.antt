-- Parts are a payload exactly where they have no fault.
use Rattle.std.proofs.Common.{◌≡◌, ℕ, ◌+◌, ◌^◌, ◌<◌, ◌≤◌, Bool, true, false, not, ◌||◌, ◌&&◌, cond, List, [], ◌∷◌, length, All, map, Option, Some, None, refl, ap, arith}
use Rattle.std.specs.Prelude.{nat_lt, ◌==◌}
use Rattle.std.specs.List.{list_all}
use Rattle.std.proofs.lemmas.Bool.Decides.{nat_tests}
use Rattle.tcs_terms.specs.declared.limits.TheConstants.{MAX_READS, MAX_RANGES, MAX_WRITES}
use Rattle.tcs_terms.specs.declared.payloads.ReadPart.{ReadPart}
use Rattle.tcs_terms.specs.declared.payloads.RangePart.{RangePart}
use Rattle.tcs_terms.specs.declared.payloads.WritePart.{WritePart}
use Rattle.tcs_terms.specs.declared.faults.BadPayload.{BadPayload}
use Rattle.tcs_terms.specs.declared.faults.BadPayload.TheVariants.{Empty, TooMany, Version, Order, Unread}
use Rattle.tcs_terms.specs.Order.{ascends_by, name_before, names_ascend}
use Rattle.tcs_terms.specs.Payloads.{Accesses, reads_name, range_before, IsReadPart, IsRangePart, IsWritePart, IsPayload}
use Rattle.tcs_terms.specs.PayloadFaults.{reads_fault, ranges_fault, writes_fault, first_fault, payload_fault}
use Rattle.tcs_terms.proofs.BoolLaws.{both, left_of, right_of, not_true, not_false, neither_left, neither_right, passed}

-- what ascends still does without its first element
rest_ascends : {X : Type 0} (before : X → X → Bool) (x : X) (xs : List X) → ascends_by before (x ∷ xs) ≡ true → ascends_by before xs ≡ true
rest_ascends before x [] h = refl
rest_ascends before x (y ∷ ys) h = right_of (before x y) (ascends_by before (y ∷ ys)) h

-- every name stands after the empty one, and none before it
after_empty : (name : List ℕ) → 1 ≤ length name → name_before [] name ≡ true
after_empty [] h = absurd (omega arith)
after_empty (b ∷ bs) h = refl

before_empty : (name : List ℕ) → name_before name [] ≡ false
before_empty [] = refl
before_empty (b ∷ bs) = refl

-- ---- reads

read_names_from_empty : (rs : List ReadPart) → All IsReadPart rs → names_ascend (map (λ r. r.name) rs) ≡ true → names_ascend ([] ∷ map (λ r. r.name) rs) ≡ true
read_names_from_empty [] parts h = refl
read_names_from_empty (r ∷ rs) parts h = both (name_before [] r.name) (names_ascend (r.name ∷ map (λ r. r.name) rs)) (after_empty r.name (parts 0 r (omega arith)).name.some) h

reads_fit : (version place : ℕ) (before : List ℕ) (rs : List ReadPart) → reads_fault version place before rs ≡ None
    → (names_ascend (before ∷ map (λ r. r.name) rs) ≡ true) × (list_all (λ r. nat_lt r.version version) rs ≡ true)
reads_fit version place before [] h = (refl, refl)
reads_fit version place before (r ∷ rs) h =
    let a = passed (not (name_before before r.name)) (Order place) (cond (not (nat_lt r.version version)) (Some (Version place)) (reads_fault version (place + 1) r.name rs)) h in
    let b = passed (not (nat_lt r.version version)) (Version place) (reads_fault version (place + 1) r.name rs) a.1 in
    let rest = reads_fit version (place + 1) r.name rs b.1 in (
      both (name_before before r.name) (names_ascend (r.name ∷ map (λ r. r.name) rs)) (not_true (name_before before r.name) a.0) rest.0,
      both (nat_lt r.version version) (list_all (λ r. nat_lt r.version version) rs) (not_true (nat_lt r.version version) b.0) rest.1,
    )

reads_have_no_fault : (version place : ℕ) (before : List ℕ) (rs : List ReadPart) → names_ascend (before ∷ map (λ r. r.name) rs) ≡ true
    → list_all (λ r. nat_lt r.version version) rs ≡ true → reads_fault version place before rs ≡ None
reads_have_no_fault version place before [] a b = refl
reads_have_no_fault version place before (r ∷ rs) a b =
    let order = left_of (name_before before r.name) (names_ascend (r.name ∷ map (λ r. r.name) rs)) a in
    let names = right_of (name_before before r.name) (names_ascend (r.name ∷ map (λ r. r.name) rs)) a in
    let low = left_of (nat_lt r.version version) (list_all (λ r. nat_lt r.version version) rs) b in
    let rest = right_of (nat_lt r.version version) (list_all (λ r. nat_lt r.version version) rs) b in
    rw (order, low) (reads_have_no_fault version (place + 1) r.name rs names rest)

-- ---- ranges

-- the first of the ranges begins at or after this end
abbrev StartsAfter : List ℕ → List RangePart → Type 0
StartsAfter end [] = Unit {0}
StartsAfter end (q ∷ qs) = name_before q.from end ≡ false

ranges_join : (q : RangePart) (qs : List RangePart) → StartsAfter q.upto qs → ascends_by range_before qs ≡ true → ascends_by range_before (q ∷ qs) ≡ true
ranges_join q [] s h = refl
ranges_join q (p ∷ ps) s h = both (not (name_before p.from q.upto)) (ascends_by range_before (p ∷ ps)) (ap not s) h

ranges_split : (q : RangePart) (qs : List RangePart) → ascends_by range_before (q ∷ qs) ≡ true → StartsAfter q.upto qs
ranges_split q [] h = tt
ranges_split q (p ∷ ps) h = not_false (name_before p.from q.upto) (left_of (not (name_before p.from q.upto)) (ascends_by range_before (p ∷ ps)) h)

record RangesFit (version : ℕ) (end : List ℕ) (qs : List RangePart) : Type 0 where
  whole : list_all (λ q. name_before q.from q.upto) qs ≡ true
  below : list_all (λ q. nat_lt q.version version) qs ≡ true
  ascend : ascends_by range_before qs ≡ true
  starts : StartsAfter end qs

ranges_fit : (version place : ℕ) (end : List ℕ) (qs : List RangePart) → ranges_fault version place end qs ≡ None → RangesFit version end qs
ranges_fit version place end [] h = record { whole = refl; below = refl; ascend = refl; starts = tt }
ranges_fit version place end (q ∷ qs) h =
    let a = passed (not (name_before q.from q.upto) || name_before q.from end) (Order place) (cond (not (nat_lt q.version version)) (Some (Version place)) (ranges_fault version (place + 1) q.upto qs)) h in
    let b = passed (not (nat_lt q.version version)) (Version place) (ranges_fault version (place + 1) q.upto qs) a.1 in
    let rest = ranges_fit version (place + 1) q.upto qs b.1 in
    record {
      whole = both (name_before q.from q.upto) (list_all (λ q. name_before q.from q.upto) qs) (not_true (name_before q.from q.upto) (neither_left (not (name_before q.from q.upto)) (name_before q.from end) a.0)) rest.whole;
      below = both (nat_lt q.version version) (list_all (λ q. nat_lt q.version version) qs) (not_true (nat_lt q.version version) b.0) rest.below;
      ascend = ranges_join q qs rest.starts rest.ascend;
      starts = neither_right (not (name_before q.from q.upto)) (name_before q.from end) a.0;
    }

ranges_have_no_fault : (version place : ℕ) (end : List ℕ) (qs : List RangePart) → RangesFit version end qs → ranges_fault version place end qs ≡ None
ranges_have_no_fault version place end [] h = refl
ranges_have_no_fault version place end (q ∷ qs) h =
    let whole = left_of (name_before q.from q.upto) (list_all (λ q. name_before q.from q.upto) qs) h.whole in
    let low = left_of (nat_lt q.version version) (list_all (λ q. nat_lt q.version version) qs) h.below in
    let starts : name_before q.from end ≡ false = h.starts in
    let rest : RangesFit version q.upto qs = record {
      whole = right_of (name_before q.from q.upto) (list_all (λ q. name_before q.from q.upto) qs) h.whole;
      below = right_of (nat_lt q.version version) (list_all (λ q. nat_lt q.version version) qs) h.below;
      ascend = rest_ascends range_before q qs h.ascend;
      starts = ranges_split q qs h.ascend;
    } in
    rw (whole, starts, low) (ranges_have_no_fault version (place + 1) q.upto qs rest)

starts_after_empty : (qs : List RangePart) → StartsAfter [] qs
starts_after_empty [] = tt
starts_after_empty (q ∷ qs) = before_empty q.from

-- ---- writes

write_names_from_empty : (ws : List WritePart) → All IsWritePart ws → names_ascend (map (λ w. w.name) ws) ≡ true → names_ascend ([] ∷ map (λ w. w.name) ws) ≡ true
write_names_from_empty [] parts h = refl
write_names_from_empty (w ∷ ws) parts h = both (name_before [] w.name) (names_ascend (w.name ∷ map (λ w. w.name) ws)) (after_empty w.name (parts 0 w (omega arith)).name.some) h

writes_fit : (reads : List ReadPart) (place : ℕ) (before : List ℕ) (ws : List WritePart) → writes_fault reads place before ws ≡ None
    → (names_ascend (before ∷ map (λ w. w.name) ws) ≡ true) × (list_all (λ w. reads_name reads w.name) ws ≡ true)
writes_fit reads place before [] h = (refl, refl)
writes_fit reads place before (w ∷ ws) h =
    let a = passed (not (name_before before w.name)) (Order place) (cond (not (reads_name reads w.name)) (Some (Unread place)) (writes_fault reads (place + 1) w.name ws)) h in
    let b = passed (not (reads_name reads w.name)) (Unread place) (writes_fault reads (place + 1) w.name ws) a.1 in
    let rest = writes_fit reads (place + 1) w.name ws b.1 in (
      both (name_before before w.name) (names_ascend (w.name ∷ map (λ w. w.name) ws)) (not_true (name_before before w.name) a.0) rest.0,
      both (reads_name reads w.name) (list_all (λ w. reads_name reads w.name) ws) (not_true (reads_name reads w.name) b.0) rest.1,
    )

writes_have_no_fault : (reads : List ReadPart) (place : ℕ) (before : List ℕ) (ws : List WritePart) → names_ascend (before ∷ map (λ w. w.name) ws) ≡ true
    → list_all (λ w. reads_name reads w.name) ws ≡ true → writes_fault reads place before ws ≡ None
writes_have_no_fault reads place before [] a b = refl
writes_have_no_fault reads place before (w ∷ ws) a b =
    let order = left_of (name_before before w.name) (names_ascend (w.name ∷ map (λ w. w.name) ws)) a in
    let names = right_of (name_before before w.name) (names_ascend (w.name ∷ map (λ w. w.name) ws)) a in
    let known = left_of (reads_name reads w.name) (list_all (λ w. reads_name reads w.name) ws) b in
    let rest = right_of (reads_name reads w.name) (list_all (λ w. reads_name reads w.name) ws) b in
    rw (order, known) (writes_have_no_fault reads (place + 1) w.name ws names rest)

-- ---- payloads

no_first : (a b : Option BadPayload) → first_fault a b ≡ None → (a ≡ None) × (b ≡ None)
no_first None b h = (refl, h)
no_first (Some f) b h = absurd cc

pub record AreParts (p : Accesses) : Type 0 where
  pub version_fits : p.version < 2 ^ 64
  pub read_parts : All IsReadPart p.reads
  pub range_parts : All IsRangePart p.ranges
  pub write_parts : All IsWritePart p.writes

pub is_payload_without_fault : (p : Accesses) → AreParts p → payload_fault p ≡ None → IsPayload p
is_payload_without_fault p parts h =
    let faults = first_fault (reads_fault p.version 1 [] p.reads) (first_fault (ranges_fault p.version (length p.reads + 1) [] p.ranges) (writes_fault p.reads (length p.reads + length p.ranges + 1) [] p.writes)) in
    let a = passed ((length p.reads == 0) && (length p.ranges == 0)) Empty (cond (nat_lt MAX_READS (length p.reads) || nat_lt MAX_RANGES (length p.ranges) || nat_lt MAX_WRITES (length p.writes)) (Some TooMany) (cond (p.version == 0) (Some (Version 0)) faults)) h in
    let b = passed (nat_lt MAX_READS (length p.reads) || nat_lt MAX_RANGES (length p.ranges) || nat_lt MAX_WRITES (length p.writes)) TooMany (cond (p.version == 0) (Some (Version 0)) faults) a.1 in
    let c = passed (p.version == 0) (Version 0) faults b.1 in
    let d = no_first (reads_fault p.version 1 [] p.reads) (first_fault (ranges_fault p.version (length p.reads + 1) [] p.ranges) (writes_fault p.reads (length p.reads + length p.ranges + 1) [] p.writes)) c.1 in
    let e = no_first (ranges_fault p.version (length p.reads + 1) [] p.ranges) (writes_fault p.reads (length p.reads + length p.ranges + 1) [] p.writes) d.1 in
    let reads = reads_fit p.version 1 [] p.reads d.0 in
    let ranges = ranges_fit p.version (length p.reads + 1) [] p.ranges e.0 in
    let writes = writes_fit p.reads (length p.reads + length p.ranges + 1) [] p.writes e.1 in
    let few = neither_left (nat_lt MAX_READS (length p.reads) || nat_lt MAX_RANGES (length p.ranges)) (nat_lt MAX_WRITES (length p.writes)) b.0 in
    let few_reads = neither_left (nat_lt MAX_READS (length p.reads)) (nat_lt MAX_RANGES (length p.ranges)) few in
    let few_ranges = neither_right (nat_lt MAX_READS (length p.reads)) (nat_lt MAX_RANGES (length p.ranges)) few in
    let few_writes = neither_right (nat_lt MAX_READS (length p.reads) || nat_lt MAX_RANGES (length p.ranges)) (nat_lt MAX_WRITES (length p.writes)) b.0 in
    let some = a.0 in
    let above = c.0 in
    record {
      some = grind (arith, nat_tests);
      few_reads = grind (arith, nat_tests);
      few_ranges = grind (arith, nat_tests);
      few_writes = grind (arith, nat_tests);
      positive = grind (arith, nat_tests);
      version_fits = parts.version_fits;
      reads_ascend = rest_ascends name_before [] (map (λ r. r.name) p.reads) reads.0;
      reads_below = reads.1;
      ranges_whole = ranges.whole;
      ranges_ascend = ranges.ascend;
      ranges_below = ranges.below;
      writes_ascend = rest_ascends name_before [] (map (λ w. w.name) p.writes) writes.0;
      writes_read = writes.1;
      read_parts = parts.read_parts;
      range_parts = parts.range_parts;
      write_parts = parts.write_parts;
    }

-- no part has a fault
pub record Faultless (p : Accesses) : Type 0 where
  pub reads : reads_fault p.version 1 [] p.reads ≡ None
  pub ranges : ranges_fault p.version (length p.reads + 1) [] p.ranges ≡ None
  pub writes : writes_fault p.reads (length p.reads + length p.ranges + 1) [] p.writes ≡ None

pub faultless : (p : Accesses) → IsPayload p → Faultless p
faultless p h =
    let fit : RangesFit p.version [] p.ranges = record { whole = h.ranges_whole; below = h.ranges_below; ascend = h.ranges_ascend; starts = starts_after_empty p.ranges } in
    record {
      reads = reads_have_no_fault p.version 1 [] p.reads (read_names_from_empty p.reads h.read_parts h.reads_ascend) h.reads_below;
      ranges = ranges_have_no_fault p.version (length p.reads + 1) [] p.ranges fit;
      writes = writes_have_no_fault p.reads (length p.reads + length p.ranges + 1) [] p.writes (write_names_from_empty p.writes h.write_parts h.writes_ascend) h.writes_read;
    }

-- there are enough parts, and not too many
pub record Counted (p : Accesses) : Type 0 where
  pub some : 1 ≤ length p.reads + length p.ranges
  pub few_reads : length p.reads ≤ MAX_READS
  pub few_ranges : length p.ranges ≤ MAX_RANGES
  pub few_writes : length p.writes ≤ MAX_WRITES
  pub positive : 1 ≤ p.version

counted_faultless : (p : Accesses) → Counted p → Faultless p → payload_fault p ≡ None
counted_faultless p h f =
    let some = h.some in
    let few_reads = h.few_reads in
    let few_ranges = h.few_ranges in
    let few_writes = h.few_writes in
    let positive = h.positive in
    let a : ((length p.reads == 0) && (length p.ranges == 0)) ≡ false = grind (arith, nat_tests) in
    let b : (nat_lt MAX_READS (length p.reads) || nat_lt MAX_RANGES (length p.ranges) || nat_lt MAX_WRITES (length p.writes)) ≡ false = grind (arith, nat_tests) in
    let c : (p.version == 0) ≡ false = grind (arith, nat_tests) in
    rw (a, b, c, f.reads, f.ranges) f.writes

pub no_fault_of_a_payload : (p : Accesses) → IsPayload p → payload_fault p ≡ None
no_fault_of_a_payload p h =
    counted_faultless p (record { some = h.some; few_reads = h.few_reads; few_ranges = h.few_ranges; few_writes = h.few_writes; positive = h.positive }) (faultless p h)

pub faultless_is_payload : (p : Accesses) → Counted p → Faultless p → AreParts p → IsPayload p
faultless_is_payload p counted f parts = is_payload_without_fault p parts (counted_faultless p counted f)
