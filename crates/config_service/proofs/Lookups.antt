-- What an index tells is what a search through the configurations finds.
use Rattle.std.proofs.Common.{◌≡◌, ℕ, zero, suc, ◌+◌, ◌-◌, ◌<◌, Bool, true, false, ◌&&◌, cond, List, [], ◌∷◌, length, map, find, Option, Some, None, refl, sym, ap, ◌∙◌, arith}
use Rattle.std.specs.Prelude.{◌==◌}
use Rattle.std.specs.List.{slice_get, range_with_len, last_or}
use Rattle.std.specs.Option.{option_map, option_and_then}
use Rattle.std.proofs.lemmas.Bool.Decides.{nat_tests}
use Rattle.std.proofs.lemmas.Option.{slice_get-map}
use Rattle.tcs_terms.specs.Places.{Membership}
use Rattle.config_service.specs.Index.{of_shard, place_in, last_place, IsPlaced}

-- ---- the configuration of an epoch

found_in_shard : (shard epoch : ℕ) (cs : List Membership) → find (λ c. (c.shard == shard) && (c.epoch == epoch)) cs ≡ find (λ c. c.epoch == epoch) (of_shard cs shard)
found_in_shard shard epoch [] = refl
found_in_shard shard epoch (c ∷ cs) = go (c.shard == shard) (found_in_shard shard epoch cs) where
  go : (b : Bool) → find (λ x. (x.shard == shard) && (x.epoch == epoch)) cs ≡ find (λ x. x.epoch == epoch) (of_shard cs shard)
      → cond (b && (c.epoch == epoch)) (Some c) (find (λ x. (x.shard == shard) && (x.epoch == epoch)) cs) ≡ find (λ x. x.epoch == epoch) (cond b (c ∷ of_shard cs shard) (of_shard cs shard))
  go true e = rw e refl
  go false e = e

none_below : (e k n : ℕ) (ds : List Membership) → map (λ c. c.epoch) ds ≡ range_with_len k n → e < k → find (λ c. c.epoch == e) ds ≡ None
none_below e k n [] h lt = refl
none_below e k zero (d ∷ ds) h lt = absurd cc
none_below e k (suc n) (d ∷ ds) h lt =
    let first : d.epoch ≡ k = cc in
    let others : map (λ c. c.epoch) ds ≡ range_with_len (k + 1) n = cc in
    let apart : (d.epoch == e) ≡ false = grind (arith, nat_tests) in
    rw apart (none_below e (k + 1) n ds others (omega arith))

found_at : (i k n e : ℕ) (ds : List Membership) → map (λ c. c.epoch) ds ≡ range_with_len k n → e ≡ k + i → find (λ c. c.epoch == e) ds ≡ slice_get ds i
found_at i k n e [] h at = refl
found_at i k zero e (d ∷ ds) h at = absurd cc
found_at zero k (suc n) e (d ∷ ds) h at =
    let first : d.epoch ≡ k = cc in
    let same : (d.epoch == e) ≡ true = grind (arith, nat_tests) in
    rw same refl
found_at (suc i) k (suc n) e (d ∷ ds) h at =
    let first : d.epoch ≡ k = cc in
    let others : map (λ c. c.epoch) ds ≡ range_with_len (k + 1) n = cc in
    let apart : (d.epoch == e) ≡ false = grind (arith, nat_tests) in
    rw apart (found_at i (k + 1) n e ds others (omega arith))

joined : {A B : Type 0} (f : A → Option B) (o : Option A) (q : Option B) → option_map f o ≡ option_map (λ x. Some x) q → q ≡ option_and_then f o
joined f None None h = refl
joined f None (Some y) h = absurd cc
joined f (Some x) None h = absurd cc
joined f (Some x) (Some y) h = cc

pub config_at_place : (cs : List Membership) (shard epoch : ℕ) (places : List ℕ) → IsPlaced cs shard places
    → find (λ c. (c.shard == shard) && (c.epoch == epoch)) cs ≡ option_and_then (λ p. slice_get cs p) (place_in places epoch)
config_at_place cs shard zero places h = found_in_shard shard zero cs ∙ none_below zero 1 (length places) (of_shard cs shard) h.epochs (omega arith)
config_at_place cs shard (suc i) places h =
    let at : option_map (λ p. slice_get cs p) (slice_get places i) ≡ option_map (λ c. Some c) (slice_get (of_shard cs shard) i) =
    sym (slice_get-map (λ p. slice_get cs p) places i) ∙ ap (λ xs. slice_get xs i) h.stand ∙ slice_get-map (λ c. Some c) (of_shard cs shard) i in
    found_in_shard shard (suc i) cs ∙ found_at i 1 (length places) (suc i) (of_shard cs shard) h.epochs (omega arith) ∙ joined (λ p. slice_get cs p) (slice_get places i) (slice_get (of_shard cs shard) i) at

-- ---- the last configuration

last_mapped : {A B : Type 0} (f : A → B) (o : Option A) (xs : List A) → last_or (option_map f o) (map f xs) ≡ option_map f (last_or o xs)
last_mapped f o [] = refl
last_mapped f o (x ∷ xs) = last_mapped f (Some x) xs

last_at_end : {A : Type 0} (o : Option A) (x : A) (xs : List A) → last_or o (x ∷ xs) ≡ slice_get (x ∷ xs) (length xs)
last_at_end o x [] = refl
last_at_end o x (y ∷ ys) = last_at_end (Some x) y ys

last_is_at_end : {A : Type 0} (xs : List A) → last_or None xs ≡ slice_get xs (length xs - 1)
last_is_at_end [] = refl
last_is_at_end (x ∷ xs) = let end : length (x ∷ xs) - 1 ≡ length xs = omega arith in rw end (last_at_end None x xs)

pub last_config_place : (cs : List Membership) (shard : ℕ) (places : List ℕ) → IsPlaced cs shard places
    → last_or None (of_shard cs shard) ≡ option_and_then (λ p. slice_get cs p) (last_place places)
last_config_place cs shard places h =
    let at : option_map (λ p. slice_get cs p) (last_or None places) ≡ option_map (λ c. Some c) (last_or None (of_shard cs shard)) =
    sym (last_mapped (λ p. slice_get cs p) None places) ∙ ap (last_or None) h.stand ∙ last_mapped (λ c. Some c) None (of_shard cs shard) in
    joined (λ p. slice_get cs p) (last_or None places) (last_or None (of_shard cs shard)) at ∙ ap (option_and_then (λ p. slice_get cs p)) (last_is_at_end places)
