-- How an index grows.
use Rattle.std.proofs.Common.{◌≡◌, ◌≢◌, ℕ, zero, suc, ◌+◌, ◌<◌, ◌≤◌, ◌⊎◌, inl, inr, Bool, true, false, List, [], ◌∷◌, ◌++◌, length, map, Option, Some, None, refl, sym, ap, ◌∙◌, arith, length-append}
use Rattle.std.specs.Prelude.{◌==◌}
use Rattle.std.specs.List.{slice_get, slice_set, range_with_len, last_or}
use Rattle.std.specs.Option.{option_and_then}
use Rattle.std.proofs.lemmas.Bool.{eqb-true, cases_lt}
use Rattle.std.proofs.lemmas.Bool.Decides.{nat_tests}
use Rattle.std.proofs.lemmas.List.Elements.{filter-append, All-push}
use Rattle.std.proofs.lemmas.List.{append-nil, map-append}
use Rattle.tcs_terms.specs.Places.{Membership, IsMembership}
use Rattle.protocol.specs.Service.{last_config, is_next}
use Rattle.config_service.specs.Index.{of_shard, last_place, places_of, IsPlaced, IsIndex}
use Rattle.config_service.proofs.Lookups.{last_config_place}

-- ---- one configuration more

-- what stands at a place stays there
stays : (cs more : List Membership) (p : ℕ) (x : Membership) → slice_get cs p ≡ Some x → slice_get (cs ++ more) p ≡ Some x
stays [] more p x h = absurd cc
stays (c ∷ cs) more zero x h = h
stays (c ∷ cs) more (suc p) x h = stays cs more p x h

all_stay : (cs more : List Membership) (ps : List ℕ) (ds : List Membership) → map (λ p. slice_get cs p) ps ≡ map (λ c. Some c) ds
    → map (λ p. slice_get (cs ++ more) p) ps ≡ map (λ c. Some c) ds
all_stay cs more [] ds h = h
all_stay cs more (p ∷ ps) [] h = absurd cc
all_stay cs more (p ∷ ps) (d ∷ ds) h =
    let first : slice_get cs p ≡ Some d = cc in
    let others : map (λ q. slice_get cs q) ps ≡ map (λ c. Some c) ds = cc in
    let here = stays cs more p d first in
    let there = all_stay cs more ps ds others in
    cc

added_at : (cs : List Membership) (c : Membership) → slice_get (cs ++ c ∷ []) (length cs) ≡ Some c
added_at [] c = refl
added_at (x ∷ cs) c = added_at cs c

placed_elsewhere : (cs : List Membership) (c : Membership) (shard : ℕ) (places : List ℕ) → shard ≢ c.shard → IsPlaced cs shard places → IsPlaced (cs ++ c ∷ []) shard places
placed_elsewhere cs c shard places apart h =
    let other : (c.shard == shard) ≡ false = grind (arith, nat_tests) in
    let same : of_shard (cs ++ c ∷ []) shard ≡ of_shard cs shard = rw (filter-append, other) (append-nil _) in
    record {
      stand = rw same (all_stay cs (c ∷ []) places (of_shard cs shard) h.stand);
      epochs = rw same h.epochs;
    }

range_more : (k n : ℕ) → range_with_len k (suc n) ≡ range_with_len k n ++ (k + n) ∷ []
range_more k zero = ap (λ x. x ∷ []) (let same : k ≡ k + 0 = omega arith in same)
range_more k (suc n) = ap (λ xs. k ∷ xs) (range_more (k + 1) n ∙ (let order : k + 1 + n ≡ k + suc n = omega arith in rw order refl))

-- the last of epochs that follow one another
last_epoch_is : (k n : ℕ) (o : Option Membership) (d : Membership) (ds : List Membership) → map (λ c. c.epoch) ds ≡ range_with_len k (suc n) → last_or o ds ≡ Some d → d.epoch ≡ k + n
last_epoch_is k n o d [] h e = absurd cc
last_epoch_is k zero o d (x ∷ []) h e =
    let same : x ≡ d = cc in
    let first : x.epoch ≡ k = cc in
    rw (← same) (omega arith)
last_epoch_is k zero o d (x ∷ y ∷ ys) h e = absurd cc
last_epoch_is k (suc n) o d (x ∷ xs) h e =
    let others : map (λ c. c.epoch) xs ≡ range_with_len (k + 1) (suc n) = cc in
    omega (arith, last_epoch_is (k + 1) n (Some x) d xs others e)

count_of_last : (n : ℕ) (d : Membership) (ds : List Membership) → map (λ c. c.epoch) ds ≡ range_with_len 1 n → last_or None ds ≡ Some d → d.epoch ≡ n
count_of_last zero d [] h e = absurd cc
count_of_last zero d (x ∷ xs) h e = absurd cc
count_of_last (suc n) d ds h e = omega (arith, last_epoch_is 1 n None d ds h e)

placed_next : (cs : List Membership) (c last : Membership) (places : List ℕ) → IsPlaced cs c.shard places → last_or None (of_shard cs c.shard) ≡ Some last
    → c.epoch ≡ last.epoch + 1 → IsPlaced (cs ++ c ∷ []) c.shard (places ++ length cs ∷ [])
placed_next cs c last places h e next =
    let own : (c.shard == c.shard) ≡ true = grind (arith, nat_tests) in
    let kept : of_shard (cs ++ c ∷ []) c.shard ≡ of_shard cs c.shard ++ c ∷ [] = rw (filter-append, own) refl in
    let stood = all_stay cs (c ∷ []) places (of_shard cs c.shard) h.stand in
    let here = added_at cs c in
    let count = count_of_last (length places) last (of_shard cs c.shard) h.epochs e in
    let epoch : c.epoch ≡ 1 + length places = omega arith in
    let long : length (places ++ length cs ∷ []) ≡ suc (length places) = omega (arith, length-append places (length cs ∷ [])) in
    record {
      stand = rw (kept, map-append, stood, here, map-append) refl;
      epochs = rw (kept, long, map-append, h.epochs, epoch) (sym (range_more 1 (length places)));
    }

-- ---- the index with one shard's places changed

places_there : (index : List (List ℕ)) (s : ℕ) (w : List ℕ) → s < length index → places_of (slice_set index s w) s ≡ w
places_there [] s w lt = absurd (omega arith)
places_there (x ∷ xs) zero w lt = refl
places_there (x ∷ xs) (suc s) w lt = places_there xs s w (omega arith)

places_elsewhere : (index : List (List ℕ)) (s t : ℕ) (w : List ℕ) → t ≢ s → places_of (slice_set index s w) t ≡ places_of index t
places_elsewhere [] s t w apart = refl
places_elsewhere (x ∷ xs) zero zero w apart = absurd (apart refl)
places_elsewhere (x ∷ xs) zero (suc t) w apart = refl
places_elsewhere (x ∷ xs) (suc s) zero w apart = refl
places_elsewhere (x ∷ xs) (suc s) (suc t) w apart = places_elsewhere xs s t w (λ e. apart (ap suc e))

index_grows : (cs : List Membership) (c last : Membership) (index : List (List ℕ)) → IsIndex cs index → c.shard < length index
    → last_or None (of_shard cs c.shard) ≡ Some last → c.epoch ≡ last.epoch + 1 → IsMembership c
    → IsIndex (cs ++ c ∷ []) (slice_set index c.shard (places_of index c.shard ++ length cs ∷ []))
index_grows cs c last index h lt e next one = record {
  each = λ shard. go shard (shard == c.shard) refl;
  formed = All-push IsMembership cs c h.formed one;
} where
  w : List ℕ
  w = places_of index c.shard ++ length cs ∷ []

  go : (shard : ℕ) (b : Bool) → (shard == c.shard) ≡ b → IsPlaced (cs ++ c ∷ []) shard (places_of (slice_set index c.shard w) shard)
  go shard true same =
      let one : shard ≡ c.shard = eqb-true shard c.shard same in
      rw (one, places_there index c.shard w lt) (placed_next cs c last (places_of index c.shard) (h.each c.shard) e next)
  go shard false other =
      let apart : shard ≢ c.shard = grind (arith, nat_tests) in
      rw (places_elsewhere index c.shard shard w apart) (placed_elsewhere cs c shard (places_of index shard) apart (h.each shard))

-- ---- the next configuration of a shard

next_after : (o : Option Membership) (c : Membership) → is_next o c ≡ true → (last : Membership) × (o ≡ Some last) × (c.epoch ≡ last.epoch + 1)
next_after None c h = absurd cc
next_after (Some last) c h = (last, refl, eqb-true c.epoch (last.epoch + 1) h)

places_past : (index : List (List ℕ)) (shard : ℕ) → length index ≤ shard → places_of index shard ≡ []
places_past [] shard h = refl
places_past (x ∷ xs) zero h = absurd (omega arith)
places_past (x ∷ xs) (suc shard) h = places_past xs shard (omega arith)

-- the shard of the next configuration has a place in the index
pub next_indexed : (cs : List Membership) (c : Membership) (index : List (List ℕ)) → IsIndex cs index → is_next (last_config cs c.shard) c ≡ true → c.shard < length index
next_indexed cs c index h next = go (cases_lt c.shard (length index)) where
  go : (c.shard < length index) ⊎ (length index ≤ c.shard) → c.shard < length index
  go (inl lt) = lt
  go (inr past) =
      let last = next_after (last_config cs c.shard) c next in
      let none = last_config_place cs c.shard (places_of index c.shard) (h.each c.shard) ∙ ap (λ ps. option_and_then (λ p. slice_get cs p) (last_place ps)) (places_past index c.shard past) in
      let some = last.1 in
      absurd cc

-- the index with the place of the next configuration is that of all
pub next_stored : (cs : List Membership) (c : Membership) (index : List (List ℕ)) → IsIndex cs index → is_next (last_config cs c.shard) c ≡ true → IsMembership c
    → IsIndex (cs ++ c ∷ []) (slice_set index c.shard (places_of index c.shard ++ length cs ∷ []))
next_stored cs c index h next one =
    let last = next_after (last_config cs c.shard) c next in
    index_grows cs c last.0 index h (next_indexed cs c index h next) last.1 last.2 one
