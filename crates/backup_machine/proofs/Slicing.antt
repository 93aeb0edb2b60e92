-- What a slice reads is a payload.
use Rattle.std.proofs.Common.{◌≡◌, ℕ, ◌+◌, ◌<◌, ◌≤◌, ◌^◌, true, ◌&&◌, List, [], ◌∷◌, length, map, refl, ap, subst, arith}
use Rattle.std.specs.Prelude.{max, fold, nat_lt, nat_le, All}
use Rattle.std.specs.List.{list_all}
use Rattle.std.proofs.lemmas.Bool.Decides.{nat_tests}
use Rattle.std.proofs.lemmas.List.{length-map}
use Rattle.std.proofs.lemmas.List.Elements.{All-nil}
use Rattle.tcs_terms.specs.declared.payloads.ReadPart.{ReadPart}
use Rattle.tcs_terms.specs.declared.payloads.RangePart.{RangePart}
use Rattle.tcs_terms.specs.declared.payloads.WritePart.{WritePart}
use Rattle.tcs_terms.specs.Order.{name_before}
use Rattle.tcs_terms.specs.Payloads.{IsPayload, IsReadPart, IsRangePart, IsWritePart}
use Rattle.tcs_terms.proofs.BoolLaws.{both, left_of, right_of}
use Rattle.backup_machine.specs.declared.objects.Kept.{Kept}
use Rattle.backup_machine.specs.Objects.{is_kept_version, AreOf}
use Rattle.backup_machine.specs.Slices.{read_of, range_of, greatest, slice_payload}

abbrev most_of : ℕ → List Kept → ℕ
most_of most kept = fold (λ (most : ℕ) (k : Kept). max most k.version) most kept

names-reads : (kept : List Kept) → map (λ (r : ReadPart). r.name) (map read_of kept) ≡ map (λ (k : Kept). k.name) kept
names-reads [] = refl
names-reads (k ∷ ks) = ap (λ (ns : List (List ℕ)). k.name ∷ ns) (names-reads ks)

-- no version is above the greatest
versions_below : (most top : ℕ) (kept : List Kept) → most_of most kept ≤ top → (most ≤ top) × (list_all (λ (r : ReadPart). nat_lt r.version (top + 1)) (map read_of kept) ≡ true)
versions_below most top [] below = (below, refl)
versions_below most top (k ∷ ks) below =
    let h = versions_below (max most k.version) top ks below in
    (omega (arith, h.0), both (nat_lt k.version (top + 1)) (list_all (λ (r : ReadPart). nat_lt r.version (top + 1)) (map read_of ks)) (let v : k.version ≤ top = omega (arith, h.0) in grind (arith, nat_tests)) h.1)

-- the greatest version is below what each version is below
greatest_below : (most top : ℕ) (kept : List Kept) → most < top → list_all (λ (k : Kept). nat_le 1 k.version && nat_lt k.version top) kept ≡ true → most_of most kept < top
greatest_below most top [] below h = below
greatest_below most top (k ∷ ks) below h =
    greatest_below (max most k.version) top ks
    (let first = right_of (nat_le 1 k.version) (nat_lt k.version top) (left_of (nat_le 1 k.version && nat_lt k.version top) (list_all (λ (k : Kept). nat_le 1 k.version && nat_lt k.version top) ks) h) in
    let v : k.version < top = grind (arith, nat_tests) in omega (arith, v, below))
    (right_of (nat_le 1 k.version && nat_lt k.version top) (list_all (λ (k : Kept). nat_le 1 k.version && nat_lt k.version top) ks) h)

-- there is a version above the greatest
pub greatest_fits : (kept : List Kept) → list_all (λ (k : Kept). is_kept_version k.version) kept ≡ true → greatest kept + 1 < 2 ^ 64
greatest_fits kept h = let below : greatest kept < 18446744073709551615 = greatest_below 0 18446744073709551615 kept (omega arith) h in omega (arith, below)

is_a_payload : (from upto : List ℕ) (kept : List Kept) → AreOf from upto kept → length kept ≤ 16 → All IsReadPart (map read_of kept) → All IsRangePart (range_of from upto ∷ []) → IsPayload (slice_payload from upto kept)
is_a_payload from upto kept are few read_parts range_parts = record {
  some = omega arith;
  few_reads = let h = length-map kept read_of in omega (arith, h, few);
  few_ranges = omega arith;
  few_writes = omega arith;
  positive = omega arith;
  version_fits = greatest_fits kept are.versions;
  reads_ascend = rw (names-reads kept) are.ascend;
  reads_below = (versions_below 0 (greatest kept) kept (omega arith)).1;
  ranges_whole = both (name_before from upto) true are.span refl;
  ranges_ascend = refl;
  ranges_below = both (nat_lt 0 (greatest kept + 1)) true (grind (arith, nat_tests)) refl;
  writes_ascend = refl;
  writes_read = refl;
  read_parts = read_parts;
  range_parts = range_parts;
  write_parts = All-nil IsWritePart;
}

pub slice_is_a_payload : (from upto : List ℕ) (kept : List Kept) (reads : List ReadPart) (ranges : List RangePart) (writes : List WritePart) (version : ℕ) → AreOf from upto kept → length kept ≤ 16
    → reads ≡ map read_of kept → ranges ≡ range_of from upto ∷ [] → writes ≡ [] → version ≡ greatest kept + 1 → All IsReadPart reads → All IsRangePart ranges
    → IsPayload (record { reads = reads; ranges = ranges; writes = writes; version = version })
slice_is_a_payload from upto kept reads ranges writes version are few r q w v read_parts range_parts =
    rw (r, q, w, v) (is_a_payload from upto kept are few (subst (All IsReadPart) r read_parts) (subst (All IsRangePart) q range_parts))
