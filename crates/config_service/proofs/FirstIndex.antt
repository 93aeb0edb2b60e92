-- The index of a run's first configurations.
use Rattle.std.proofs.Common.{◌≡◌, ℕ, zero, suc, ◌+◌, ◌<◌, true, false, List, [], ◌∷◌, length, map, Some, refl, arith}
use Rattle.std.specs.Prelude.{◌==◌}
use Rattle.std.specs.List.{slice_get, range_with_len, list_all}
use Rattle.std.proofs.lemmas.Bool.Decides.{nat_tests}
use Rattle.tcs_terms.specs.Places.{Membership}
use Rattle.std.proofs.lemmas.Bool.{and_parts, eqb-true}
use Rattle.config_service.specs.Index.{of_shard, list_of, places_of, IsPlaced, IsIndex, first_index}
use Rattle.config_service.specs.Firsts.{AreFirsts}

-- a shard below those of the configurations, whose shards are numbered from k on, has none of them
none_of_lower : (shard k n : ℕ) (cs : List Membership) → map (λ c. c.shard) cs ≡ range_with_len k n → shard < k → of_shard cs shard ≡ []
none_of_lower shard k n [] h lt = refl
none_of_lower shard k zero (c ∷ cs) h lt = absurd cc
none_of_lower shard k (suc n) (c ∷ cs) h lt =
    let first : c.shard ≡ k = cc in
    let others : map (λ x. x.shard) cs ≡ range_with_len (k + 1) n = cc in
    let apart : (c.shard == shard) ≡ false = grind (arith, nat_tests) in
    rw apart (none_of_lower shard (k + 1) n cs others (omega arith))

-- where these configurations stand in a list from a place on, each of them is the only one of its shard
placed_from : (all cs : List Membership) (place k i shard : ℕ) → map (λ c. c.shard) cs ≡ range_with_len k (length cs) → list_all (λ c. c.epoch == 1) cs ≡ true
    → ((j : ℕ) → slice_get all (place + j) ≡ slice_get cs j) → shard ≡ k + i
    → (map (λ p. slice_get all p) (list_of (slice_get (map (λ p. p ∷ []) (range_with_len place (length cs))) i)) ≡ map (λ c. Some c) (of_shard cs shard))
    × (map (λ c. c.epoch) (of_shard cs shard) ≡ range_with_len 1 (length (list_of (slice_get (map (λ p. p ∷ []) (range_with_len place (length cs))) i))))
placed_from all [] place k i shard each first there at = (refl, refl)
placed_from all (c ∷ cs) place k zero shard each first there at =
    let head : c.shard ≡ k = cc in
    let others : map (λ x. x.shard) cs ≡ range_with_len (k + 1) (length cs) = cc in
    let own : (c.shard == shard) ≡ true = grind (arith, nat_tests) in
    let none = none_of_lower shard (k + 1) (length cs) cs others (omega arith) in
    let here : place ≡ place + 0 = omega arith in
    let stands : slice_get all place ≡ Some c = rw here (there 0) in
    let one = eqb-true c.epoch 1 (and_parts (c.epoch == 1) (list_all (λ x. x.epoch == 1) cs) first).0 in
    (rw (own, none, stands) refl, rw (own, none, one) refl)
placed_from all (c ∷ cs) place k (suc i) shard each first there at =
    let head : c.shard ≡ k = cc in
    let others : map (λ x. x.shard) cs ≡ range_with_len (k + 1) (length cs) = cc in
    let apart : (c.shard == shard) ≡ false = grind (arith, nat_tests) in
    let on : (j : ℕ) → slice_get all (place + 1 + j) ≡ slice_get cs j = λ j. (let order : place + 1 + j ≡ place + suc j = omega arith in rw order (there (suc j))) in
    rw apart (placed_from all cs (place + 1) (k + 1) i shard others (and_parts (c.epoch == 1) (list_all (λ x. x.epoch == 1) cs) first).1 on (omega arith))

pub firsts_indexed : (cs : List Membership) → AreFirsts cs → IsIndex cs (first_index (length cs))
firsts_indexed cs h = record { each = go; formed = h.formed } where
  go : (shard : ℕ) → IsPlaced cs shard (places_of (first_index (length cs)) shard)
  go zero =
      let none = none_of_lower zero 1 (length cs) cs h.one_each (omega arith) in
      record { stand = rw none refl; epochs = rw none refl }
  go (suc s) =
      let placed = placed_from cs cs 0 1 s (suc s) h.one_each h.first (λ j. let same : 0 + j ≡ j = omega arith in rw same refl) (omega arith) in
      record { stand = placed.0; epochs = placed.1 }
