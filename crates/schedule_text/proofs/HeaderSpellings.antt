-- The lines of a setup are read as they stand.
use Rattle.std.proofs.Common.{◌≡◌, ℕ, ◌+◌, ◌^◌, ◌<◌, ◌≤◌, Bool, true, false, not, List, [], ◌∷◌, ◌++◌, length, map, Option, Some, None, Ok, refl, sym, ◌∙◌, ap, subst, arith, codes, decimal}
use Rattle.std.specs.Prelude.{nat_le, nat_lt, ◌==◌, ◌&&◌, ◌||◌}
use Rattle.std.specs.List.{list_all}
use Rattle.std.proofs.lemmas.Bool.{eqb-true}
use Rattle.std.proofs.lemmas.Bool.Decides.{nat_tests}
use Rattle.std.proofs.lemmas.List.{length-map}
use Rattle.tcs_terms.specs.declared.limits.TheConstants.{MAX_SHARDS, MAX_NODES, MAX_MEMBERS}
use Rattle.tcs_terms.specs.declared.setups.Rule.{Rule}
use Rattle.tcs_terms.specs.ConfigFaults.{config_fault}
use Rattle.tcs_terms.specs.Places.{Membership, IsMembership, is_among}
use Rattle.tcs_terms.specs.Setups.{Deployment, IsDeployment, has_node, is_node_of, is_first}
use Rattle.tcs_terms.proofs.BoolLaws.{left_of, right_of}
use Rattle.tcs_terms.proofs.PlaceLaws.{no_fault_of_a_membership}
use Rattle.tcs_terms.proofs.SetupLaws.{no_fault_of_a_deployment}
use Rattle.schedule_text.specs.declared.places.Place.TheVariants as places
use Rattle.tcs_terms.specs.Rules.{rule_text}
use Rattle.tcs_terms.proofs.RuleReadings.{word_names}
use Rattle.schedule_text.specs.Header.{rule_at, version_at, certifier_at, shards_at, next_at, node_at, shard_in_order_at, members_at, first_config_at, config_at, begun_at, has_place_for, events_at, part_at, head_at}
use Rattle.schedule_text.proofs.EventReadings.{ascend_from_zero}
use Rattle.schedule_text.proofs.NodeReadings.{nodes_again, small_node}
use Rattle.schedule_text.proofs.NumberReadings.{number_reads, between_again, node_of_again}

-- ---- the lines before the nodes

pub version_again : (only : Option ℕ) (d : Deployment) (n : ℕ) → 1 ≤ n → n ≤ 2
    → head_at only places.Version d (codes "tcs" ∷ decimal n ∷ []) ≡ Ok (None, record { place = places.Certifier; setup = record d { version = n } })
unfolding version_at
version_again only d n low high = rw (between_again 1 2 n [] (omega arith) low high) refl

rule_again : (r : Rule) (ws : List (List ℕ)) → rule_at (rule_text r ∷ ws) ≡ Ok (r, ws)
unfolding rule_at
rule_again r ws = rw (word_names r) refl

pub certifier_again : (only : Option ℕ) (d : Deployment) (r : Rule)
    → head_at only places.Certifier d (codes "certifier" ∷ rule_text r ∷ []) ≡ Ok (None, record { place = places.Shards; setup = record d { rule = r } })
unfolding certifier_at
certifier_again only d r = rw (rule_again r []) refl

pub shards_again : (only : Option ℕ) (d : Deployment) (n : ℕ) → 1 ≤ n → n ≤ MAX_SHARDS
    → head_at only places.Shards d (codes "shards" ∷ decimal n ∷ []) ≡ Ok (None, record { place = places.Parts; setup = record d { shards = n } })
unfolding shards_at
shards_again only d n low high = rw (between_again 1 MAX_SHARDS n [] (omega arith) low high) refl

-- ---- nodes

pub node_again : (only : Option ℕ) (d : Deployment) (node shard : ℕ) → d.configs ≡ [] → node ≡ length d.nodes + 1 → length d.nodes < MAX_NODES → 1 ≤ shard → shard ≤ d.shards → d.shards < 2 ^ 64
    → head_at only places.Parts d (codes "node" ∷ decimal node ∷ decimal shard ∷ []) ≡ Ok (None, record { place = places.Parts; setup = record d { nodes = d.nodes ++ shard ∷ [] } })
unfolding part_at node_at next_at
node_again only d node shard none is room low high small =
    let first : (length d.configs == 0) ≡ true = rw none refl in
    let some_room : nat_le MAX_NODES (length d.nodes) ≡ false = grind (arith, nat_tests) in
    let in_order : (node == length d.nodes + 1) ≡ true = grind (arith, nat_tests) in
    rw (first, number_reads node (decimal shard ∷ []) (omega arith), some_room, in_order, between_again 1 d.shards shard [] (omega arith) low high) refl

-- ---- configurations

-- one configuration, which is the next one of the setup
pub record ConfigFits (d : Deployment) (c : Membership) : Type 0 where
  pub is : IsMembership c
  pub next : c.shard ≡ length d.configs + 1
  pub within : c.shard ≤ d.shards
  pub first : is_first d.nodes c ≡ true
  pub few : length d.nodes ≤ MAX_NODES
  pub some : 1 ≤ length d.nodes
  pub shards : d.shards ≤ MAX_SHARDS

pub among_is : (nodes : List ℕ) (shard : ℕ) (ns : List ℕ) (n : ℕ) → list_all (is_node_of nodes shard) ns ≡ true → is_among ns n ≡ true → is_node_of nodes shard n ≡ true
among_is nodes shard [] n each h = absurd cc
among_is nodes shard (m ∷ ms) n each h = go (m == n) refl h (λ k. among_is nodes shard ms n (right_of (is_node_of nodes shard m) (list_all (is_node_of nodes shard) ms) each) k) where
  go : (b : Bool) → (m == n) ≡ b → (b || is_among ms n) ≡ true → (is_among ms n ≡ true → is_node_of nodes shard n ≡ true) → is_node_of nodes shard n ≡ true
  go true e k others = subst (λ (j : ℕ). is_node_of nodes shard j ≡ true) (eqb-true m n e) (left_of (is_node_of nodes shard m) (list_all (is_node_of nodes shard) ms) each)
  go false e k others = others k

members_again : (d : Deployment) (c : Membership) → ConfigFits d c → list_all (is_node_of d.nodes c.shard) c.members ≡ true → members_at d c.shard (map decimal c.members) ≡ Ok c.members
unfolding members_at
members_again d c fits each =
    let some = fits.is.some in
    let few = fits.few in
    let nonempty : (length (map decimal c.members) == 0) ≡ false = let n = length-map c.members decimal in grind (arith, nat_tests) in
    rw (nonempty, nodes_again d.nodes c.shard MAX_MEMBERS 0 c.members (omega arith) fits.is.few each (ascend_from_zero d.nodes c.shard c.members each fits.is.ascend)) refl

first_config_again : (d : Deployment) (c : Membership) → ConfigFits d c → first_config_at d (decimal c.shard ∷ decimal c.leader ∷ map decimal c.members) ≡ Ok c
unfolding first_config_at shard_in_order_at
first_config_again d c fits =
    let each = right_of ((c.epoch == 1) && (c.by == 0)) (list_all (is_node_of d.nodes c.shard) c.members) fits.first in
    let numbers = left_of ((c.epoch == 1) && (c.by == 0)) (list_all (is_node_of d.nodes c.shard) c.members) fits.first in
    let epoch : c.epoch ≡ 1 = eqb-true c.epoch 1 (left_of (c.epoch == 1) (c.by == 0) numbers) in
    let by : c.by ≡ 0 = eqb-true c.by 0 (right_of (c.epoch == 1) (c.by == 0) numbers) in
    let made : Membership = record { shard = c.shard; epoch = 1; members = c.members; leader = c.leader; by = 0 } in
    let same : made ≡ c =
    ap (λ (n : ℕ). let m : Membership = record { shard = c.shard; epoch = n; members = c.members; leader = c.leader; by = 0 } in m) (sym epoch)
    ∙ ap (λ (n : ℕ). let m : Membership = record { shard = c.shard; epoch = c.epoch; members = c.members; leader = c.leader; by = n } in m) (sym by) in
    let few = fits.few in
    let shards = fits.shards in
    let within = fits.within in
    let next = fits.next in
    let leads = among_is d.nodes c.shard c.members c.leader each fits.is.leads in
    let leader = small_node d.nodes c.leader (omega arith) (left_of (has_node d.nodes c.leader) _ leads) in
    let faultless : config_fault made ≡ None = ap config_fault same ∙ no_fault_of_a_membership c fits.is in
    let in_order : (c.shard == length d.configs + 1) ≡ true = grind (arith, nat_tests) in
    rw (
      between_again 1 d.shards c.shard (decimal c.leader ∷ map decimal c.members) (omega arith) (omega arith) within,
      in_order,
      node_of_again d.nodes c.shard c.leader (map decimal c.members) leader leads,
      members_again d c fits each,
      faultless,
    ) (ap Ok same)

and_false : (b : Bool) → (b && false) ≡ false
and_false true = refl
and_false false = refl

pub config_again : (only : Option ℕ) (d : Deployment) (c : Membership) → ConfigFits d c
    → head_at only places.Parts d (codes "config" ∷ decimal c.shard ∷ decimal c.leader ∷ map decimal c.members) ≡ Ok (None, record { place = places.Parts; setup = record d { configs = d.configs ++ c ∷ [] } })
unfolding part_at config_at
config_again only d c fits =
    let some = fits.some in
    let next = fits.next in
    let within = fits.within in
    let may : (not (length d.nodes == 0) && nat_lt (length d.configs) d.shards) ≡ true = grind (arith, nat_tests) in
    rw (and_false (length d.configs == 0), may, first_config_again d c fits) refl

-- ---- the line `events`

pub events_again : (only : Option ℕ) (d : Deployment) → IsDeployment d → has_place_for only d ≡ true
    → head_at only places.Parts d (codes "events" ∷ []) ≡ Ok (Some d, record { place = places.Events; setup = d })
unfolding part_at events_at begun_at
events_again only d is has =
    rw (and_false (length d.configs == 0), and_false (not (length d.nodes == 0) && nat_lt (length d.configs) d.shards), no_fault_of_a_deployment d is, has) refl
