-- Views and cases as a coordinator keeps them.
use Rattle.std.specs.Prelude.{◌≡◌, ◌==◌, Option, ℕ, ◌≤◌, List, length, map}
use Rattle.std.specs.List.{range_with_len, position_from}
use Rattle.tcs_terms.specs.declared.limits.TheConstants.{MAX_SHARDS}
use Rattle.tcs_terms.specs.Places.{Membership, IsShardSet}
use Rattle.protocol.specs.Records.{Part, Case}

-- one view for each of 1 to 16 shards, shard 1 first
pub record AreViews (views : List Membership) : Type 0 where
  pub some : 1 ≤ length views
  pub few : length views ≤ MAX_SHARDS
  pub in_order : map (λ v. v.shard) views ≡ range_with_len 1 (length views)

-- the place of a shard among the views, if it has one
abbrev pub place_among : List Membership → ℕ → Option ℕ
place_among views shard = position_from (λ v. v.shard == shard) 0 views

-- one part for each of the case's shards, in their order
pub record HasParts (case : Case) : Type 0 where
  pub shards : IsShardSet case.shards
  pub each : map (λ p. p.shard) case.parts ≡ case.shards

-- the place of a shard among parts, if it has one
abbrev pub part_place : List Part → ℕ → Option ℕ
part_place parts shard = position_from (λ p. p.shard == shard) 0 parts
