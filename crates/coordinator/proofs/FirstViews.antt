-- A coordinator begins with the first configurations of a setup.
use Rattle.std.proofs.Common.{◌≡◌, length, sym, ◌∙◌, ap}
use Rattle.std.proofs.lemmas.List.{length-map}
use Rattle.std.proofs.lemmas.List.FromFn.{length-range_with_len}
use Rattle.tcs_terms.specs.Places.{Membership}
use Rattle.tcs_terms.specs.Setups.{Deployment, IsDeployment}
use Rattle.coordinator.specs.InOrder.{AreViews}

pub first_views : (d : Deployment) → IsDeployment d → AreViews d.configs
first_views d h =
    let count : length d.configs ≡ d.shards = sym (length-map d.configs (λ (c : Membership). c.shard)) ∙ ap length h.one_each ∙ length-range_with_len 1 d.shards in
    record { some = rw count h.some_shards; few = rw count h.few_shards; in_order = rw count h.one_each }
