-- What a session was given is a payload.
use Rattle.std.proofs.Common.{◌≡◌, ℕ, ◌+◌, ◌<◌, ◌≤◌, ◌^◌, Bool, true, false, ◌||◌, cond, List, [], ◌∷◌, ◌++◌, length, map, filter, refl, subst, ap, arith, append_assoc}
use Rattle.std.specs.Prelude.{Option, Some, None, is_some, max, fold, nat_lt, All}
use Rattle.std.specs.List.{list_all}
use Rattle.std.proofs.lemmas.Bool.Decides.{nat_tests}
use Rattle.std.proofs.lemmas.List.{length-map}
use Rattle.std.proofs.lemmas.List.Elements.{All-nil}
use Rattle.tcs_terms.specs.declared.payloads.ReadPart.{ReadPart}
use Rattle.tcs_terms.specs.declared.payloads.WritePart.{WritePart}
use Rattle.tcs_terms.specs.Order.{name_before}
use Rattle.tcs_terms.specs.Payloads.{same_name, reads_name, IsPayload, IsReadPart, IsRangePart, IsWritePart}
use Rattle.tcs_terms.proofs.BoolLaws.{both}
use Rattle.tcs_terms.proofs.OrderLaws.{names_skip, kept_ascends}
use Rattle.store_client.specs.declared.parts.Part.{Part}
use Rattle.store_client.specs.Parts.{read_of, reads, writes, write_of, greatest, payload_of, AreParts}
use Rattle.store_client.proofs.Names.{same_itself}

abbrev has_put : Part → Bool
has_put p = is_some p.put

names-reads : (parts : List Part) → map (λ (r : ReadPart). r.name) (reads parts) ≡ map (λ (p : Part). p.name) parts
names-reads [] = refl
names-reads (p ∷ ps) = ap (λ (ns : List (List ℕ)). p.name ∷ ns) (names-reads ps)

-- the objects that are to be written are those of the parts with a put
names-writes : (parts : List Part) → map (λ (w : WritePart). w.name) (writes parts) ≡ map (λ (p : Part). p.name) (filter has_put parts)
names-writes [] = refl
names-writes (p ∷ ps) = go p.put (names-writes ps)
  where
    go : (put : Option (List ℕ)) → map (λ (w : WritePart). w.name) (writes ps) ≡ map (λ (p : Part). p.name) (filter has_put ps)
        → map (λ (w : WritePart). w.name) (write_of p.name put ++ writes ps) ≡ map (λ (p : Part). p.name) (cond (is_some put) (p ∷ filter has_put ps) (filter has_put ps))
    go None rest = rest
    go (Some value) rest = ap (λ (ns : List (List ℕ)). p.name ∷ ns) rest

length_reads : (parts : List Part) → length (reads parts) ≡ length parts
length_reads parts = length-map parts read_of

few_writes : (parts : List Part) → length (writes parts) ≤ length parts
few_writes [] = omega arith
few_writes (p ∷ ps) = go p.put (few_writes ps)
  where
    go : (put : Option (List ℕ)) → length (writes ps) ≤ length ps → length (write_of p.name put ++ writes ps) ≤ length (p ∷ ps)
    go None rest = omega arith
    go (Some value) rest = omega arith

-- no version is above the greatest
versions_below : (most top : ℕ) (parts : List Part) → fold (λ (most : ℕ) (p : Part). max most p.version) most parts ≤ top
    → (most ≤ top) × (list_all (λ (r : ReadPart). nat_lt r.version (top + 1)) (reads parts) ≡ true)
versions_below most top [] below = (below, refl)
versions_below most top (p ∷ ps) below =
    let h = versions_below (max most p.version) top ps below in
    (omega (arith, h.0), both (nat_lt p.version (top + 1)) (list_all (λ (r : ReadPart). nat_lt r.version (top + 1)) (reads ps)) (let k : p.version ≤ top = omega (arith, h.0) in grind (arith, nat_tests)) h.1)

-- the object of a part is read, whatever stands before the part
part_read : (front : List Part) (p : Part) (ps : List Part) → reads_name (reads (front ++ p ∷ ps)) p.name ≡ true
part_read [] p ps = rw (same_itself p.name) refl
part_read (q ∷ qs) p ps = either (same_name q.name p.name) (part_read qs p ps)
  where
    either : (b : Bool) → reads_name (reads (qs ++ p ∷ ps)) p.name ≡ true → (b || reads_name (reads (qs ++ p ∷ ps)) p.name) ≡ true
    either true h = refl
    either false h = h

-- what is written is read
writes_read : (front parts : List Part) → list_all (λ (w : WritePart). reads_name (reads (front ++ parts)) w.name) (writes parts) ≡ true
writes_read front [] = refl
writes_read front (p ∷ ps) =
    go p.put (subst (λ (qs : List Part). list_all (λ (w : WritePart). reads_name (reads qs) w.name) (writes ps) ≡ true) (append_assoc front (p ∷ []) ps) (writes_read (front ++ p ∷ []) ps))
  where
    go : (put : Option (List ℕ)) → list_all (λ (w : WritePart). reads_name (reads (front ++ p ∷ ps)) w.name) (writes ps) ≡ true
        → list_all (λ (w : WritePart). reads_name (reads (front ++ p ∷ ps)) w.name) (write_of p.name put ++ writes ps) ≡ true
    go None rest = rest
    go (Some value) rest = both (reads_name (reads (front ++ p ∷ ps)) p.name) (list_all (λ (w : WritePart). reads_name (reads (front ++ p ∷ ps)) w.name) (writes ps)) (part_read front p ps) rest

pub parts_are_a_payload : (parts : List Part) → AreParts parts → 1 ≤ length parts → greatest parts + 1 < 2 ^ 64 → All IsReadPart (reads parts) → All IsWritePart (writes parts) → IsPayload (payload_of parts)
parts_are_a_payload parts are some fits read_parts write_parts = record {
  some = let h = length_reads parts in omega (arith, h, some);
  few_reads = let h = length_reads parts in omega (arith, h, are.few);
  few_ranges = omega arith;
  few_writes = let h = few_writes parts in omega (arith, h, are.few);
  positive = omega arith;
  version_fits = fits;
  reads_ascend = rw (names-reads parts) are.ascend;
  reads_below = (versions_below 0 (greatest parts) parts (omega arith)).1;
  ranges_whole = refl;
  ranges_ascend = refl;
  ranges_below = refl;
  writes_ascend = rw (names-writes parts) (kept_ascends name_before names_skip (λ (p : Part). p.name) has_put parts are.ascend);
  writes_read = writes_read [] parts;
  read_parts = read_parts;
  range_parts = All-nil IsRangePart;
  write_parts = write_parts;
}
