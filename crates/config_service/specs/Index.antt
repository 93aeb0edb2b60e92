-- Where the configurations of each shard stand in the list of all that are stored.
use Rattle.std.specs.Prelude.{◌≡◌, ℕ, zero, suc, ◌-◌, ◌==◌, List, [], ◌∷◌, filter, map, length, Option, Some, None, All}
use Rattle.std.specs.List.{slice_get, range_with_len}
use Rattle.tcs_terms.specs.Places.{Membership, IsMembership}

-- the configurations of a shard, in the order in which they were stored
abbrev pub of_shard : List Membership → ℕ → List Membership
of_shard configs shard = filter (λ c. c.shard == shard) configs

-- the place of an epoch, among those of a shard's epochs from 1 on
abbrev pub place_in : List ℕ → ℕ → Option ℕ
place_in places zero = None
place_in places (suc n) = slice_get places n

-- the place of the last epoch
abbrev pub last_place : List ℕ → Option ℕ
last_place places = slice_get places (length places - 1)

-- no places where there is no list
abbrev pub list_of : Option (List ℕ) → List ℕ
list_of None = []
list_of (Some places) = places

-- the places of a shard's configurations, kept at the shard's number; number 0 is no shard's
abbrev pub places_of : List (List ℕ) → ℕ → List ℕ
places_of index shard = list_of (slice_get index shard)

-- at these places stand the shard's configurations, of the epochs from 1 on
pub record IsPlaced (configs : List Membership) (shard : ℕ) (places : List ℕ) : Type 0 where
  pub stand : map (λ p. slice_get configs p) places ≡ map (λ c. Some c) (of_shard configs shard)
  pub epochs : map (λ c. c.epoch) (of_shard configs shard) ≡ range_with_len 1 (length places)

-- an index tells the places of each shard's configurations, which are well formed
pub record IsIndex (configs : List Membership) (index : List (List ℕ)) : Type 0 where
  pub each : (shard : ℕ) → IsPlaced configs shard (places_of index shard)
  pub formed : All IsMembership configs

-- the index of n first configurations
abbrev pub first_index : ℕ → List (List ℕ)
first_index n = [] ∷ map (λ p. p ∷ []) (range_with_len 0 n)
