-- A node as it begins.
use Rattle.std.proofs.Common.{◌≡◌, ℕ, Bool, true, false, cond, List, [], ◌∷◌, Some, refl}
use Rattle.std.specs.Prelude.{◌==◌, All, IsTrue}
use Rattle.std.specs.List.{list_all}
use Rattle.std.proofs.lemmas.Bool.{and_parts}
use Rattle.tcs_terms.specs.Places.{Membership, IsMembership, is_node, is_shard}
use Rattle.protocol.specs.Views.{view_of}
use Rattle.protocol.specs.World.{first_node}
use Rattle.protocol_laws.proofs.RangesStart.{first_node-in_range}
use Rattle.coordinator.specs.InOrder.{AreViews}
use Rattle.replica.specs.Duties.{is_first}
use Rattle.node_core.specs.Soundness.{IsKept}

-- the first configuration of a shard has epoch 1
pub first_of_shard : (configs : List Membership) (shard : ℕ) → list_all (λ c. c.epoch == 1) configs ≡ true → is_first (view_of configs shard) ≡ true
first_of_shard [] shard h = refl
first_of_shard (v ∷ vs) shard h =
    let parts = and_parts (v.epoch == 1) (list_all (λ c. c.epoch == 1) vs) h in
    go (v.shard == shard) parts.0 (first_of_shard vs shard parts.1) where
      go : (b : Bool) → (v.epoch == 1) ≡ true → is_first (view_of vs shard) ≡ true → is_first (cond b (Some v) (view_of vs shard)) ≡ true
      go true here rest = here
      go false here rest = rest

pub first_kept : (configs : List Membership) (name shard : ℕ) → IsTrue (is_node name) → IsTrue (is_shard shard) → AreViews configs → All IsMembership configs
    → IsKept (first_node configs name shard)
unfolding first_node
first_kept configs name shard node place views members = record {
  range = first_node-in_range configs name shard (record { some = views.some; few = views.few; in_order = views.in_order; configs = members }) node place;
  given = refl;
}
