-- The views of a node: stored configurations, one for each shard.
use Rattle.std.proofs.Common.{◌≡◌, ℕ, suc, true, List, [], ◌∷◌, map, length, Some, ◌==◌, sym, ◌∙◌, ap, refl, eqb-true}
use Rattle.std.proofs.lemmas.List.FromFn.{length-range_with_len}
use Rattle.tcs_terms.specs.Places.{Membership}
use Rattle.tcs_terms.specs.Setups.{Deployment}
use Rattle.protocol.specs.Records.{NodeRecord}
use Rattle.protocol.specs.Views.{view_of}
use Rattle.protocol.specs.Invariant.Configurations.{ConfigurationsHold}
use Rattle.protocol.specs.Invariant.Time.{Moment, StandsIn, IsNode, IsStored}
use Rattle.protocol.proofs.Lists.{find-StandsIn}
use Rattle.protocol_laws.proofs.ConfigurationsHad.{had}

-- the view of a shard is a stored configuration of it
pub record IsView (t : Moment) (shard : ℕ) (v : Membership) : Type 0 where
  pub stored : IsStored t v
  pub of_shard : v.shard ≡ shard

pub view_stored : (setup : Deployment) (t : Moment) (node : NodeRecord) (v : Membership) → ConfigurationsHold setup t → IsNode t node → StandsIn v node.coordinator.views → IsStored t v
view_stored setup t node v k n s = k.in_nodes node v n ((had node v).views s)

pub view_is : (setup : Deployment) (t : Moment) (node : NodeRecord) (shard : ℕ) (v : Membership) → ConfigurationsHold setup t → IsNode t node → view_of node.coordinator.views shard ≡ Some v → IsView t shard v
view_is setup t node shard v k n e =
    let f : StandsIn v node.coordinator.views × ((v.shard == shard) ≡ true) = find-StandsIn (λ (m : Membership). m.shard == shard) node.coordinator.views v e in
    record { stored = view_stored setup t node v k n f.0; of_shard = eqb-true v.shard shard f.1 }

-- a node has a view of each shard
pub views_length : (setup : Deployment) (t : Moment) (node : NodeRecord) → ConfigurationsHold setup t → IsNode t node → length node.coordinator.views ≡ setup.shards
views_length setup t node k n = sym (map_length node.coordinator.views) ∙ ap length (k.views node n) ∙ length-range_with_len 1 setup.shards
  where
    map_length : (vs : List Membership) → length (map (λ v. v.shard) vs) ≡ length vs
    map_length [] = refl
    map_length (v ∷ vs) = ap suc (map_length vs)
