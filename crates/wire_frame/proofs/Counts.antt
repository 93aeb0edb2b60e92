-- Lists that ascend within bounds are short.
use Rattle.std.proofs.Common.{ℕ, ◌+◌, ◌≤◌, Bool, true, ◌&&◌, ltb, leb, List, [], ◌∷◌, length, map, refl, arith}
use Rattle.std.specs.Prelude.{IsTrue}
use Rattle.std.specs.List.{list_all}
use Rattle.std.proofs.lemmas.Bool.{and_parts, and_from, ltb-true, leb-true}
use Rattle.std.proofs.lemmas.List.{length-map}
use Rattle.tcs_terms.specs.declared.logs.Row.{Row}
use Rattle.tcs_terms.specs.Order.{ascends}
use Rattle.tcs_terms.specs.Places.{IsShardSet}
use Rattle.tcs_terms.specs.Logs.{AreRows}

abbrev pub within : ℕ → ℕ → Bool
within top n = leb 1 n && leb n top

room : (top n : ℕ) (ns : List ℕ) → IsTrue (ascends (n ∷ ns)) → IsTrue (list_all (within top) (n ∷ ns)) → n + length ns ≤ top
room top n [] up each =
    let e = and_parts (within top n) true each in
    omega (arith, leb-true n top (and_parts (leb 1 n) (leb n top) e.0).1)
room top n (m ∷ ms) up each =
    let u = and_parts (ltb n m) (ascends (m ∷ ms)) up in
    let e = and_parts (within top n) (list_all (within top) (m ∷ ms)) each in
    omega (arith, ltb-true n m u.0, room top m ms u.1 e.1)

short : (top : ℕ) (ns : List ℕ) → IsTrue (ascends ns) → IsTrue (list_all (within top) ns) → length ns ≤ top
short top [] up each = omega arith
short top (n ∷ ns) up each =
    let e = and_parts (within top n) (list_all (within top) ns) each in
    omega (arith, room top n ns up each, leb-true 1 n (and_parts (leb 1 n) (leb n top) e.0).0)

pub few_shards : (shards : List ℕ) → IsShardSet shards → length shards ≤ 16
few_shards shards set = short 16 shards set.ascend set.each

pub all_slots : (rows : List Row) → IsTrue (list_all (λ r. leb 1 r.entry.slot && leb r.entry.slot 4096) rows) → IsTrue (list_all (within 4096) (map (λ r. r.entry.slot) rows))
all_slots [] each = refl
all_slots (r ∷ rows) each =
    let e = and_parts (leb 1 r.entry.slot && leb r.entry.slot 4096) (list_all (λ r. leb 1 r.entry.slot && leb r.entry.slot 4096) rows) each in
    and_from (within 4096 r.entry.slot) (list_all (within 4096) (map (λ r. r.entry.slot) rows)) e.0 (all_slots rows e.1)

pub few_rows : (rows : List Row) → AreRows rows → length rows ≤ 4096
few_rows rows are = omega (arith, short 4096 (map (λ r. r.entry.slot) rows) are.slots_ascend (all_slots rows are.slots), length-map rows (λ r. r.entry.slot))
