-- The configurations of a setup are the first ones of a run.
use Rattle.std.proofs.Common.{◌≡◌, ℕ, true, ◌&&◌, List, [], ◌∷◌, length, refl, sym, ap, ◌∙◌}
use Rattle.std.specs.Prelude.{◌==◌}
use Rattle.std.specs.List.{list_all}
use Rattle.tcs_terms.specs.Places.{Membership}
use Rattle.tcs_terms.specs.Setups.{Deployment, IsDeployment, is_first, is_node_of}
use Rattle.std.proofs.lemmas.List.{length-map}
use Rattle.std.proofs.lemmas.Bool.{and_parts, and_from}
use Rattle.std.proofs.lemmas.List.FromFn.{length-range_with_len}
use Rattle.config_service.specs.Firsts.{AreFirsts}

firsts_of_epoch_1 : (nodes : List ℕ) (cs : List Membership) → list_all (is_first nodes) cs ≡ true → list_all (λ c. c.epoch == 1) cs ≡ true
firsts_of_epoch_1 nodes [] h = refl
firsts_of_epoch_1 nodes (c ∷ cs) h =
    let parts = and_parts (is_first nodes c) (list_all (is_first nodes) cs) h in
    let numbers = and_parts ((c.epoch == 1) && (c.by == 0)) (list_all (is_node_of nodes c.shard) c.members) parts.0 in
    and_from (c.epoch == 1) (list_all (λ x. x.epoch == 1) cs) (and_parts (c.epoch == 1) (c.by == 0) numbers.0).0 (firsts_of_epoch_1 nodes cs parts.1)

pub firsts_of_setup : (d : Deployment) → IsDeployment d → AreFirsts d.configs
firsts_of_setup d h =
    let count : length d.configs ≡ d.shards = sym (length-map d.configs (λ c. c.shard)) ∙ ap length h.one_each ∙ length-range_with_len 1 d.shards in
    record { one_each = rw count h.one_each; formed = h.configs; first = firsts_of_epoch_1 d.nodes d.configs h.first }
