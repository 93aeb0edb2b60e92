-- The members of a configuration that do not lead it.
use Rattle.std.proofs.Common.{◌≡◌, ℕ, Bool, true, false, not, ◌&&◌, ◌||◌, cond, List, [], ◌∷◌, filter, refl, ap}
use Rattle.std.specs.Prelude.{◌==◌}
use Rattle.std.specs.List.{list_all}
use Rattle.tcs_terms.specs.Places.{is_among}

-- what holds of each that leads or passes, holds of each that does not lead
pub followers_among : (acks : List ℕ) (leader : ℕ) (nodes : List ℕ)
    → list_all (λ node. is_among acks node) (filter (λ m. not (m == leader)) nodes) ≡ list_all (λ node. (node == leader) || is_among acks node) nodes
followers_among acks leader [] = refl
followers_among acks leader (n ∷ ns) = go (n == leader) (followers_among acks leader ns) where
  go : (b : Bool) → list_all (λ node. is_among acks node) (filter (λ m. not (m == leader)) ns) ≡ list_all (λ node. (node == leader) || is_among acks node) ns
      → list_all (λ node. is_among acks node) (cond (not b) (n ∷ filter (λ m. not (m == leader)) ns) (filter (λ m. not (m == leader)) ns))
      ≡ ((b || is_among acks n) && list_all (λ node. (node == leader) || is_among acks node) ns)
  go true ih = ih
  go false ih = ap (λ (b : Bool). is_among acks n && b) ih
