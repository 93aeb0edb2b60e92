-- Payloads are read as they are spelled.
use Rattle.std.proofs.Common.{◌≡◌, ℕ, zero, suc, ◌+◌, ◌-◌, ◌^◌, ◌<◌, ◌≤◌, Bool, true, false, not, ◌&&◌, leb, cond, List, [], ◌∷◌, ◌++◌, length, map, Option, Some, None, Ok, refl, sym, ap, subst, ◌∙◌, append_assoc, arith, ◌⊎◌, inl, inr}
use Rattle.std.specs.Prelude.{IsTrue, IfSome}
use Rattle.std.specs.List.{flat_map, AllByRecursion}
use Rattle.std.specs.Int.{w64}
use Rattle.std.proofs.lemmas.Bool.{and_parts, and_from, le-leb, leb-true, leb-false, lt-leb, or_cases, or_left, or_right}
use Rattle.std.proofs.lemmas.List.Elements.{All-from_recursion, recursion_from_All}
use Rattle.tcs_terms.specs.declared.payloads.ReadPart.{ReadPart}
use Rattle.tcs_terms.specs.declared.payloads.RangePart.{RangePart}
use Rattle.tcs_terms.specs.declared.payloads.WritePart.{WritePart}
use Rattle.tcs_terms.specs.Objects.{IsName}
use Rattle.tcs_terms.specs.Order.{name_before, names_ascend}
use Rattle.tcs_terms.specs.Payloads.{Accesses, IsPayload, IsReadPart, IsRangePart, IsWritePart}
use Rattle.wire_frame.specs.declared.faults.FrameReason.TheVariants.{Range}
use Rattle.wire_frame.specs.Spelling.{eight, reads_byte, spell_read, spell_ranges, spell_writes, spell_payload, spell_maybe}
use Rattle.wire_frame.specs.Reading.{byte_at, number_at, tested}
use Rattle.wire_frame.specs.Parts.{is_up_to, is_reads_byte, has_ranges, reads_count, reads_at, ranges_at, writes_at, payload_at, maybe_at}
use Rattle.wire_frame.proofs.Fields.{IsBytes, IsBytes-rest, Takes, IsField, nothing_yet, on, all_read, goes, tested_field}
use Rattle.wire_frame.proofs.NumberFields.{one, up_to, eight_field, small_field}
use Rattle.wire_frame.proofs.ReadFields.{ReadsFrom, reads_field, RangesFrom, RangesAre, begins_after, some_range, ranges_field, WritesFrom, writes_field}

-- ---- the byte that says how many reads there are

-- 1 to 16, or 32 to 48
reads_byte_is : (k : ℕ) → IsTrue (is_reads_byte k) → ((1 ≤ k) × (k ≤ 16)) ⊎ ((32 ≤ k) × (k ≤ 48))
reads_byte_is k h =
    elim (or_cases (is_up_to 16 k) (leb 32 k && leb k 48) h) [
      | inl low ↦ inl (up_to 16 k low)
      | inr high ↦ let p = and_parts (leb 32 k) (leb k 48) high in inr (leb-true 32 k p.0, leb-true k 48 p.1)
    ]

reads_byte_small : (k : ℕ) → IsTrue (is_reads_byte k) → k < 256
reads_byte_small k h = elim (reads_byte_is k h) [ inl low ↦ omega (arith, low) | inr high ↦ omega (arith, high) ]

-- what a byte says of the reads and the ranges after it
record Says (k : ℕ) (reads : List ReadPart) (ranges : List RangePart) : Type 0 where
  count : length reads ≡ reads_count k
  there : some_range ranges ≡ has_ranges k

record Counted (k : ℕ) (reads : List ReadPart) (ranges : List RangePart) : Type 0 where
  byte : reads_byte reads ranges ≡ k
  some : 1 ≤ length reads + length ranges
  few : length reads ≤ 16

counted : (k : ℕ) (reads : List ReadPart) (ranges : List RangePart) → IsTrue (is_reads_byte k) → Says k reads ranges → Counted k reads ranges
counted k reads [] is says =
    let below : k < 32 = leb-false 32 k (sym says.there) in
    let count : length reads ≡ k = says.count ∙ ap (λ (b : Bool). cond b (k - 32) k) (sym says.there) in
    let low : (1 ≤ k) × (k ≤ 16) = elim (reads_byte_is k is) [ inl low ↦ low | inr high ↦ absurd (omega (arith, high, below)) ] in
    record { byte = count; some = omega arith; few = omega arith }
counted k reads (q ∷ ranges) is says =
    let above : 32 ≤ k = leb-true 32 k (sym says.there) in
    let count : length reads ≡ k - 32 = says.count ∙ ap (λ (b : Bool). cond b (k - 32) k) (sym says.there) in
    let high : k ≤ 48 = elim (reads_byte_is k is) [ inl low ↦ omega (arith, low) | inr high ↦ high.1 ] in
    record { byte = omega arith; some = omega arith; few = omega arith }

byte_says : (reads : List ReadPart) (ranges : List RangePart) → 1 ≤ length reads + length ranges → length reads ≤ 16 → IsTrue (is_reads_byte (reads_byte reads ranges)) × Says (reads_byte reads ranges) reads ranges
byte_says reads [] some few =
    let n = length reads in
    let below : leb 32 (length reads) ≡ false = lt-leb 32 (length reads) (omega arith) in (
      or_left (is_up_to 16 (length reads)) (leb 32 (length reads) && leb (length reads) 48) (and_from (leb 1 (length reads)) (leb (length reads) 16) (le-leb _ _ (omega arith)) (le-leb _ _ few)),
      record { count = sym (ap (λ (b : Bool). cond b (length reads - 32) (length reads)) below); there = sym below },
    )
byte_says reads (q ∷ ranges) some few =
    let above : leb 32 (32 + length reads) ≡ true = le-leb 32 (32 + length reads) (omega arith) in
    let count : length reads ≡ (32 + length reads) - 32 = omega arith in (
      or_right (is_up_to 16 (32 + length reads)) (leb 32 (32 + length reads) && leb (32 + length reads) 48) (and_from (leb 32 (32 + length reads)) (leb (32 + length reads) 48) above (le-leb _ _ (omega arith))),
      record { count = count ∙ sym (ap (λ (b : Bool). cond b ((32 + length reads) - 32) (32 + length reads)) above); there = sym above },
    )

-- ---- names after the empty name

without_empty : (names : List (List ℕ)) → IsTrue (names_ascend ([] ∷ names)) → IsTrue (names_ascend names)
without_empty [] up = refl
without_empty (n ∷ names) up = (and_parts (name_before [] n) (names_ascend (n ∷ names)) up).1

after_empty : (name : List ℕ) → IsName name → IsTrue (name_before [] name)
after_empty [] is = absurd (omega (arith, is.some))
after_empty (b ∷ name) is = refl

reads_with_empty : (reads : List ReadPart) → AllByRecursion IsReadPart reads → IsTrue (names_ascend (map (λ r. r.name) reads)) → IsTrue (names_ascend ([] ∷ map (λ r. r.name) reads))
reads_with_empty [] parts up = refl
reads_with_empty (r ∷ reads) parts up = and_from (name_before [] r.name) (names_ascend (r.name ∷ map (λ r. r.name) reads)) (after_empty r.name parts.0.name) up

writes_with_empty : (writes : List WritePart) → AllByRecursion IsWritePart writes → IsTrue (names_ascend (map (λ w. w.name) writes)) → IsTrue (names_ascend ([] ∷ map (λ w. w.name) writes))
writes_with_empty [] parts up = refl
writes_with_empty (w ∷ writes) parts up = and_from (name_before [] w.name) (names_ascend (w.name ∷ map (λ w. w.name) writes)) (after_empty w.name parts.0.name) up

first_begins : (ranges : List RangePart) → IsTrue (begins_after [] ranges)
first_begins [] = refl
first_begins (q ∷ ranges) = not_before q.from where
  not_before : (name : List ℕ) → IsTrue (not (name_before name []))
  not_before [] = refl
  not_before (b ∷ name) = refl

-- ---- payloads

version_field : IsField eight (λ v. (v < 2 ^ 64) × IsTrue (leb 1 v)) (tested Range (leb 1) (number_at w64))
version_field = tested_field Range (leb 1) eight_field

count_field : IsField one (λ k. IsTrue (is_reads_byte k)) (tested Range is_reads_byte byte_at)
count_field = small_field is_reads_byte reads_byte_small

payload_is : (version : ℕ) (reads : List ReadPart) (ranges : List RangePart) (writes : List WritePart) → version < 2 ^ 64 → 1 ≤ version
    → 1 ≤ length reads + length ranges → length reads ≤ 16 → ReadsFrom version [] reads → length ranges ≤ 3 → RangesFrom version [] ranges → length writes ≤ 16 → WritesFrom reads [] writes
    → IsPayload (record { reads = reads; ranges = ranges; writes = writes; version = version })
payload_is version reads ranges writes fits positive some few are_reads few_ranges are_ranges few_writes are_writes = record {
  some = some;
  few_reads = few;
  few_ranges = few_ranges;
  few_writes = few_writes;
  positive = positive;
  version_fits = fits;
  reads_ascend = without_empty (map (λ r. r.name) reads) are_reads.ascend;
  reads_below = are_reads.below;
  ranges_whole = are_ranges.whole;
  ranges_ascend = are_ranges.ascend;
  ranges_below = are_ranges.below;
  writes_ascend = without_empty (map (λ w. w.name) writes) are_writes.ascend;
  writes_read = are_writes.are_read;
  read_parts = All-from_recursion IsReadPart reads are_reads.parts;
  range_parts = All-from_recursion IsRangePart ranges are_ranges.parts;
  write_parts = All-from_recursion IsWritePart writes are_writes.parts;
}

payload_takes : (bytes : List ℕ) (x : Accesses × List ℕ) → IsBytes bytes → payload_at bytes ≡ Ok x → Takes bytes (spell_payload x.0) x.1 × IsPayload x.0
unfolding payload_at spell_payload
payload_takes bytes x fits e =
    on version_field _ x bytes [] bytes (nothing_yet bytes fits) e (λ version mid so_far is_version e.
    on count_field _ x bytes _ mid so_far e (λ k mid so_far is_k e.
    on (reads_field version (reads_count k)) _ x bytes _ mid so_far e (λ reads mid so_far are_reads e.
    on (ranges_field version (has_ranges k)) _ x bytes _ mid so_far e (λ ranges mid so_far are_ranges e.
    on (writes_field reads) _ x bytes _ mid so_far e (λ writes rest so_far are_writes e.
    let said = counted k reads ranges is_k (record { count = are_reads.0; there = are_ranges.said }) in
    all_read spell_payload IsPayload bytes _ rest x e
    (subst (λ (b : ℕ). Takes bytes (eight version ++ b ∷ [] ++ flat_map spell_read reads ++ spell_ranges ranges ++ spell_writes writes) rest) (sym said.byte) so_far)
    (payload_is version reads ranges writes is_version.0 (leb-true 1 version is_version.1) said.some said.few are_reads.1 are_ranges.few are_ranges.from are_writes.0 are_writes.1))))))

reads_of_payload : (p : Accesses) → IsPayload p → ReadsFrom p.version [] p.reads
reads_of_payload p is =
    let parts = recursion_from_All IsReadPart p.reads is.read_parts in
    record { parts = parts; ascend = reads_with_empty p.reads parts is.reads_ascend; below = is.reads_below }

ranges_of_payload : (p : Accesses) → IsPayload p → RangesAre p.version (some_range p.ranges) p.ranges
ranges_of_payload p is = record {
  said = refl;
  few = is.few_ranges;
  from = record { parts = recursion_from_All IsRangePart p.ranges is.range_parts; first = first_begins p.ranges; ascend = is.ranges_ascend; whole = is.ranges_whole; below = is.ranges_below };
}

writes_of_payload : (p : Accesses) → IsPayload p → WritesFrom p.reads [] p.writes
writes_of_payload p is =
    let parts = recursion_from_All IsWritePart p.writes is.write_parts in
    record { parts = parts; ascend = writes_with_empty p.writes parts is.writes_ascend; are_read = is.writes_read }

payload_again : (p : Accesses) (rest : List ℕ) → IsPayload p → payload_at (spell_payload p ++ rest) ≡ Ok (p, rest)
unfolding payload_at spell_payload
payload_again p rest is =
    let k = reads_byte p.reads p.ranges in
    let says = byte_says p.reads p.ranges is.some is.few_reads in
    let after_writes : List ℕ = spell_writes p.writes ++ rest in
    let after_ranges : List ℕ = spell_ranges p.ranges ++ after_writes in
    let after_reads : List ℕ = flat_map spell_read p.reads ++ after_ranges in
    let regrouped : spell_payload p ++ rest ≡ eight p.version ++ (reads_byte p.reads p.ranges ∷ after_reads) = simp append_assoc in
    ap payload_at regrouped
    ∙ goes version_field _ p.version (reads_byte p.reads p.ranges ∷ after_reads) (is.version_fits, le-leb 1 p.version is.positive)
    ∙ goes count_field _ (reads_byte p.reads p.ranges) after_reads says.0
    ∙ goes (reads_field p.version (reads_count (reads_byte p.reads p.ranges))) _ p.reads after_ranges (says.1.count, reads_of_payload p is)
    ∙ goes (ranges_field p.version (has_ranges (reads_byte p.reads p.ranges))) _ p.ranges after_writes
    (subst (λ (b : Bool). RangesAre p.version b p.ranges) says.1.there (ranges_of_payload p is))
    ∙ goes (writes_field p.reads) _ p.writes rest (is.few_writes, writes_of_payload p is)

pub payload_field : IsField spell_payload IsPayload payload_at
payload_field = record { takes = payload_takes; again = payload_again }

-- ---- a payload that may be missing

abbrev maybe_good : Option Accesses → Type 0
maybe_good o = IfSome o IsPayload

maybe_takes : (bytes : List ℕ) (x : Option Accesses × List ℕ) → IsBytes bytes → maybe_at bytes ≡ Ok x → Takes bytes (spell_maybe x.0) x.1 × maybe_good x.0
unfolding maybe_at
maybe_takes [] x fits e = absurd cc
maybe_takes (zero ∷ bytes) x fits e = all_read spell_maybe maybe_good (0 ∷ bytes) None bytes x e (record { parts = refl; rest_fits = IsBytes-rest 0 bytes fits }) tt
maybe_takes (suc zero ∷ bytes) x fits e =
    on payload_field _ x (1 ∷ bytes) (1 ∷ []) bytes (record { parts = refl; rest_fits = IsBytes-rest 1 bytes fits }) e (λ p rest so_far is e.
    all_read spell_maybe maybe_good (1 ∷ bytes) (Some p) rest x e so_far is)
maybe_takes (suc (suc b) ∷ bytes) x fits e = absurd cc

maybe_again : (o : Option Accesses) (rest : List ℕ) → maybe_good o → maybe_at (spell_maybe o ++ rest) ≡ Ok (o, rest)
unfolding maybe_at
maybe_again None rest is = refl
maybe_again (Some p) rest is = goes payload_field _ p rest is

pub maybe_field : IsField spell_maybe maybe_good maybe_at
maybe_field = record { takes = maybe_takes; again = maybe_again }

-- what is read part by part is a payload
pub is_payload : (bytes after_version : List ℕ) (byte count : ℕ) (there : Bool) (after_byte after_reads after_ranges rest : List ℕ) (p : Accesses) → IsBytes bytes
    → tested Range (leb 1) (number_at w64) bytes ≡ Ok (p.version, after_version) → tested Range is_reads_byte byte_at after_version ≡ Ok (byte, after_byte)
    → count ≡ reads_count byte → reads_at p.version count after_byte ≡ Ok (p.reads, after_reads)
    → there ≡ has_ranges byte → ranges_at p.version there after_reads ≡ Ok (p.ranges, after_ranges) → writes_at p.reads after_ranges ≡ Ok (p.writes, rest) → IsPayload p
unfolding payload_at
is_payload bytes after_version byte count there after_byte after_reads after_ranges rest p fits version first many reads some ranges writes =
    let all_reads : reads_at p.version (reads_count byte) after_byte ≡ Ok (p.reads, after_reads) = rw (← many) reads in
    let all_ranges : ranges_at p.version (has_ranges byte) after_reads ≡ Ok (p.ranges, after_ranges) = rw (← some) ranges in
    let read : payload_at bytes ≡ Ok (p, rest) = rw (version, first, all_reads, all_ranges, writes) refl in
    (payload_field.takes bytes (p, rest) fits read).1
