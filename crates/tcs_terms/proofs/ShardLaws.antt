-- The part of a payload in a shard is a payload, and its shards are a set of shards.
use Rattle.std.proofs.Common.{◌≡◌, ℕ, zero, suc, ◌+◌, ◌≤◌, ◌<◌, Bool, true, false, ◌&&◌, ◌||◌, cond, List, [], ◌∷◌, length, map, filter, Some, refl, ap, arith, inl, inr, ◌⊎◌}
use Rattle.std.specs.Prelude.{nat_lt, ◌==◌}
use Rattle.std.specs.List.{list_all, list_any, range_with_len}
use Rattle.std.specs.Cmp.Lexicographic.{bytes_decides}
use Rattle.std.proofs.lemmas.Bool.{cases_lt}
use Rattle.std.proofs.lemmas.Bool.Decides.{nat_tests}
use Rattle.std.proofs.lemmas.List.Elements.{All-filter}
use Rattle.tcs_terms.specs.declared.limits.TheConstants.{MAX_SHARDS}
use Rattle.tcs_terms.specs.declared.payloads.ReadPart.{ReadPart}
use Rattle.tcs_terms.specs.declared.payloads.WritePart.{WritePart}
use Rattle.tcs_terms.specs.Order.{ascends, name_before}
use Rattle.tcs_terms.specs.Places.{is_shard, IsShardSet}
use Rattle.tcs_terms.specs.Payloads.{Accesses, same_name, reads_name, IsReadPart, IsWritePart, IsPayload}
use Rattle.tcs_terms.specs.Shards.{shard_of, lies_in, part_in, restricted, shards_of}
use Rattle.tcs_terms.proofs.BoolLaws.{both, left_of, right_of}
use Rattle.tcs_terms.proofs.OrderLaws.{names_skip, numbers_skip, kept_ascends, kept_pass, kept_few, range_ascends, range_within}

or_true : (a : Bool) → (a || true) ≡ true
or_true true = refl
or_true false = refl

-- ---- the part in a shard

-- an object of the shard that is read by name is read by name there
read_there : (n shard : ℕ) (reads : List ReadPart) (name : List ℕ) → lies_in n shard name ≡ true → reads_name reads name ≡ true → reads_name (filter (λ r. lies_in n shard r.name) reads) name ≡ true
read_there n shard [] name lies h = absurd cc
read_there n shard (r ∷ rs) name lies h = go (same_name r.name name) refl (lies_in n shard r.name) refl (read_there n shard rs name lies) h where
  go : (same : Bool) → same_name r.name name ≡ same → (there : Bool) → lies_in n shard r.name ≡ there
      → (reads_name rs name ≡ true → reads_name (filter (λ x. lies_in n shard x.name) rs) name ≡ true) → (same || reads_name rs name) ≡ true
      → reads_name (cond there (r ∷ filter (λ x. lies_in n shard x.name) rs) (filter (λ x. lies_in n shard x.name) rs)) name ≡ true
  go true e true t rest k = rw e refl
  go true e false t rest k =
      let one : r.name ≡ name = (bytes_decides r.name name).0 e in
      absurd (let there : lies_in n shard r.name ≡ true = rw one lies in cc)
  go false e true t rest k = rw e (rest k)
  go false e false t rest k = rest k

writes_there : (n shard : ℕ) (reads : List ReadPart) (ws : List WritePart) → list_all (λ w. reads_name reads w.name) ws ≡ true
    → list_all (λ w. reads_name (filter (λ r. lies_in n shard r.name) reads) w.name) (filter (λ w. lies_in n shard w.name) ws) ≡ true
writes_there n shard reads [] h = refl
writes_there n shard reads (w ∷ ws) h =
    go (lies_in n shard w.name) refl (writes_there n shard reads ws (right_of (reads_name reads w.name) (list_all (λ x. reads_name reads x.name) ws) h)) where
      go : (there : Bool) → lies_in n shard w.name ≡ there
          → list_all (λ x. reads_name (filter (λ r. lies_in n shard r.name) reads) x.name) (filter (λ x. lies_in n shard x.name) ws) ≡ true
          → list_all (λ x. reads_name (filter (λ r. lies_in n shard r.name) reads) x.name) (cond there (w ∷ filter (λ x. lies_in n shard x.name) ws) (filter (λ x. lies_in n shard x.name) ws)) ≡ true
      go true t rest = both (reads_name (filter (λ r. lies_in n shard r.name) reads) w.name) (list_all (λ x. reads_name (filter (λ r. lies_in n shard r.name) reads) x.name) (filter (λ x. lies_in n shard x.name) ws))
          (read_there n shard reads w.name t (left_of (reads_name reads w.name) (list_all (λ x. reads_name reads x.name) ws) h)) rest
      go false t rest = rest

pub part_is_payload : (n shard : ℕ) (p : Accesses) → IsPayload p → ((length (part_in n shard p).reads == 0) && (length p.ranges == 0)) ≡ false → IsPayload (part_in n shard p)
part_is_payload n shard p h some =
    let few_reads = h.few_reads in
    let few_writes = h.few_writes in
    let reads = kept_few (λ (r : ReadPart). lies_in n shard r.name) p.reads in
    let writes = kept_few (λ (w : WritePart). lies_in n shard w.name) p.writes in
    record {
      some = grind (arith, nat_tests);
      few_reads = omega (arith, reads, few_reads);
      few_ranges = h.few_ranges;
      few_writes = omega (arith, writes, few_writes);
      positive = h.positive;
      version_fits = h.version_fits;
      reads_ascend = kept_ascends name_before names_skip (λ (r : ReadPart). r.name) (λ (r : ReadPart). lies_in n shard r.name) p.reads h.reads_ascend;
      reads_below = kept_pass (λ (r : ReadPart). nat_lt r.version p.version) (λ (r : ReadPart). lies_in n shard r.name) p.reads h.reads_below;
      ranges_whole = h.ranges_whole;
      ranges_ascend = h.ranges_ascend;
      ranges_below = h.ranges_below;
      writes_ascend = kept_ascends name_before names_skip (λ (w : WritePart). w.name) (λ (w : WritePart). lies_in n shard w.name) p.writes h.writes_ascend;
      writes_read = writes_there n shard p.reads p.writes h.writes_read;
      read_parts = All-filter (λ (r : ReadPart). lies_in n shard r.name) IsReadPart p.reads h.read_parts;
      range_parts = h.range_parts;
      write_parts = All-filter (λ (w : WritePart). lies_in n shard w.name) IsWritePart p.writes h.write_parts;
    }

-- ---- a payload that lies in one shard

all_kept : {X : Type 0} (test : X → Bool) (xs : List X) → list_all test xs ≡ true → filter test xs ≡ xs
all_kept test [] h = refl
all_kept test (x ∷ xs) h =
    let here : test x ≡ true = left_of (test x) (list_all test xs) h in
    let rest = all_kept test xs (right_of (test x) (list_all test xs) h) in
    rw (here, rest) refl

-- where all that is read lies in the shard, so does each name that is read
lies_as_read : (n shard : ℕ) (reads : List ReadPart) (name : List ℕ) → list_all (λ r. lies_in n shard r.name) reads ≡ true → reads_name reads name ≡ true → lies_in n shard name ≡ true
lies_as_read n shard [] name all h = absurd cc
lies_as_read n shard (r ∷ rs) name all h =
    go (same_name r.name name) refl (lies_as_read n shard rs name (right_of (lies_in n shard r.name) (list_all (λ x. lies_in n shard x.name) rs) all)) h where
      go : (same : Bool) → same_name r.name name ≡ same → (reads_name rs name ≡ true → lies_in n shard name ≡ true) → (same || reads_name rs name) ≡ true → lies_in n shard name ≡ true
      go true e rest k =
          let one : r.name ≡ name = (bytes_decides r.name name).0 e in
          rw (← one) (left_of (lies_in n shard r.name) (list_all (λ x. lies_in n shard x.name) rs) all)
      go false e rest k = rest k

writes_lie : (n shard : ℕ) (reads : List ReadPart) (ws : List WritePart) → list_all (λ r. lies_in n shard r.name) reads ≡ true → list_all (λ w. reads_name reads w.name) ws ≡ true
    → list_all (λ w. lies_in n shard w.name) ws ≡ true
writes_lie n shard reads [] all h = refl
writes_lie n shard reads (w ∷ ws) all h =
    both (lies_in n shard w.name) (list_all (λ x. lies_in n shard x.name) ws)
    (lies_as_read n shard reads w.name all (left_of (reads_name reads w.name) (list_all (λ x. reads_name reads x.name) ws) h))
    (writes_lie n shard reads ws all (right_of (reads_name reads w.name) (list_all (λ x. reads_name reads x.name) ws) h))

-- where all that is read lies in the shard, the part is the whole
pub whole_part : (n shard : ℕ) (p : Accesses) → IsPayload p → list_all (λ r. lies_in n shard r.name) p.reads ≡ true → restricted n shard p ≡ Some p
whole_part n shard p h all =
    let enough = h.some in
    let reads = all_kept (λ (r : ReadPart). lies_in n shard r.name) p.reads all in
    let writes = all_kept (λ (w : WritePart). lies_in n shard w.name) p.writes (writes_lie n shard p.reads p.writes all h.writes_read) in
    let some : ((length p.reads == 0) && (length p.ranges == 0)) ≡ false = grind (arith, nat_tests) in
    rw (reads, writes, some) refl

-- ---- the shards of a payload

map_same : (xs : List ℕ) → map (λ x. x) xs ≡ xs
map_same [] = refl
map_same (x ∷ xs) = ap (λ (ys : List ℕ). x ∷ ys) (map_same xs)

numbers_kept : (test : ℕ → Bool) (xs : List ℕ) → ascends xs ≡ true → ascends (filter test xs) ≡ true
numbers_kept test xs h =
    let mapped : ascends (map (λ x. x) xs) ≡ true = rw (map_same xs) h in
    rw (map_same (filter test xs)) at (kept_ascends nat_lt numbers_skip (λ (x : ℕ). x) test xs mapped)

-- a number that passes is left of those from a on
some_kept : (test : ℕ → Bool) (a m s : ℕ) → a ≤ s → s < a + m → test s ≡ true → 1 ≤ length (filter test (range_with_len a m))
some_kept test a zero s low high h = absurd (omega arith)
some_kept test a (suc m) s low high h = go (test a) refl (cases_lt a s) (some_kept test (a + 1) m s) where
  go : (b : Bool) → test a ≡ b → (a < s) ⊎ (s ≤ a) → (a + 1 ≤ s → s < a + 1 + m → test s ≡ true → 1 ≤ length (filter test (range_with_len (a + 1) m)))
      → 1 ≤ length (cond b (a ∷ filter test (range_with_len (a + 1) m)) (filter test (range_with_len (a + 1) m)))
  go true e order rest = omega arith
  go false e (inl lt) rest = rest (omega arith) (omega arith) h
  go false e (inr le) rest = absurd (let same : s ≡ a = omega arith in let passes : test a ≡ true = rw (← same) h in cc)

range_some : (a n : ℕ) → 1 ≤ n → 1 ≤ length (range_with_len a n)
range_some a zero h = absurd (omega arith)
range_some a (suc n) h = omega arith

shard_in_range : (name : List ℕ) (n : ℕ) → 1 ≤ n → shard_of name n < 1 + n
shard_in_range name n some = omega arith

lies_in_own : (n : ℕ) (name : List ℕ) → lies_in n (shard_of name n) name ≡ true
lies_in_own n name = grind (arith, nat_tests)

-- where something is read by name, it lies in one of the shards
shard_read : (n : ℕ) (reads : List ReadPart) → 1 ≤ n → 1 ≤ length reads → 1 ≤ length (filter (λ shard. list_any (λ r. lies_in n shard r.name) reads) (range_with_len 1 n))
shard_read n [] some h = absurd (omega arith)
shard_read n (r ∷ rs) some h =
    let first : list_any (λ (x : ReadPart). lies_in n (shard_of r.name n) x.name) (r ∷ rs) ≡ true = rw (lies_in_own n r.name) refl in
    some_kept (λ shard. list_any (λ (x : ReadPart). lies_in n shard x.name) (r ∷ rs)) 1 n (shard_of r.name n) (omega arith) (shard_in_range r.name n some) first

pub shards_are_a_set : (n : ℕ) (p : Accesses) → 1 ≤ n → n ≤ MAX_SHARDS → IsPayload p → IsShardSet (shards_of n p)
shards_are_a_set n p some few h = go (length p.ranges == 0) refl where
  all : IsShardSet (range_with_len 1 n)
  all = record { some = range_some 1 n some; each = range_within 1 n 1 MAX_SHARDS (omega arith) (omega arith); ascend = range_ascends 1 n }

  go : (b : Bool) → (length p.ranges == 0) ≡ b → IsShardSet (cond b (filter (λ shard. list_any (λ r. lies_in n shard r.name) p.reads) (range_with_len 1 n)) (range_with_len 1 n))
  go false e = all
  go true e = record {
    some = shard_read n p.reads some (let enough = h.some in grind (arith, nat_tests));
    each = kept_pass is_shard (λ shard. list_any (λ r. lies_in n shard r.name) p.reads) (range_with_len 1 n) all.each;
    ascend = numbers_kept (λ shard. list_any (λ r. lies_in n shard r.name) p.reads) (range_with_len 1 n) all.ascend;
  }
