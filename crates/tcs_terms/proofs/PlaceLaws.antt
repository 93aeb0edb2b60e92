-- Numbers are a configuration exactly where they have no fault.
use Rattle.std.proofs.Common.{◌≡◌, ℕ, ◌+◌, ◌≤◌, List, [], ◌∷◌, true, not, ◌&&◌, cond, length, Some, None, refl, arith}
use Rattle.std.specs.Prelude.{nat_le, nat_lt}
use Rattle.std.specs.List.{list_all}
use Rattle.std.proofs.lemmas.Bool.Decides.{nat_tests}
use Rattle.tcs_terms.specs.declared.limits.TheConstants.{MAX_SHARDS, MAX_NODES, MAX_MEMBERS}
use Rattle.tcs_terms.specs.declared.faults.BadConfig.TheVariants.{Members, Leader, Number}
use Rattle.tcs_terms.specs.Order.{ascends}
use Rattle.tcs_terms.specs.Places.{is_shard, is_node, is_epoch, is_among, Membership, IsMembership, IsShardSet}
use Rattle.tcs_terms.specs.ConfigFaults.{may_be_members, config_fault}
use Rattle.tcs_terms.proofs.BoolLaws.{both, left_of, right_of, not_true, passed}

pub is_membership_without_fault : (c : Membership) → config_fault c ≡ None → IsMembership c
is_membership_without_fault c h =
    let a = passed (not (may_be_members c.members)) Members (cond (not (is_among c.members c.leader)) (Some Leader) (cond (not (is_shard c.shard && is_epoch c.epoch && nat_le c.by MAX_NODES)) (Some Number) None)) h in
    let b = passed (not (is_among c.members c.leader)) Leader (cond (not (is_shard c.shard && is_epoch c.epoch && nat_le c.by MAX_NODES)) (Some Number) None) a.1 in
    let d = passed (not (is_shard c.shard && is_epoch c.epoch && nat_le c.by MAX_NODES)) Number None b.1 in
    let members = not_true (may_be_members c.members) a.0 in
    let numbers = not_true (is_shard c.shard && is_epoch c.epoch && nat_le c.by MAX_NODES) d.0 in
    let sized_nodes = left_of (nat_le 1 (length c.members) && nat_le (length c.members) MAX_MEMBERS && list_all is_node c.members) (ascends c.members) members in
    let sized = left_of (nat_le 1 (length c.members) && nat_le (length c.members) MAX_MEMBERS) (list_all is_node c.members) sized_nodes in
    let places = left_of (is_shard c.shard && is_epoch c.epoch) (nat_le c.by MAX_NODES) numbers in
    let by = right_of (is_shard c.shard && is_epoch c.epoch) (nat_le c.by MAX_NODES) numbers in
    record {
      some = grind (arith, nat_tests);
      few = grind (arith, nat_tests);
      each = right_of (nat_le 1 (length c.members) && nat_le (length c.members) MAX_MEMBERS) (list_all is_node c.members) sized_nodes;
      ascend = right_of (nat_le 1 (length c.members) && nat_le (length c.members) MAX_MEMBERS && list_all is_node c.members) (ascends c.members) members;
      leads = not_true (is_among c.members c.leader) b.0;
      shard = left_of (is_shard c.shard) (is_epoch c.epoch) places;
      epoch = right_of (is_shard c.shard) (is_epoch c.epoch) places;
      by = grind (arith, nat_tests);
    }

pub no_fault_of_a_membership : (c : Membership) → IsMembership c → config_fault c ≡ None
no_fault_of_a_membership c h =
    let some = h.some in
    let few = h.few in
    let by = h.by in
    let sized : (nat_le 1 (length c.members) && nat_le (length c.members) MAX_MEMBERS) ≡ true = grind (arith, nat_tests) in
    let members : may_be_members c.members ≡ true = both (nat_le 1 (length c.members) && nat_le (length c.members) MAX_MEMBERS && list_all is_node c.members) (ascends c.members) (both (nat_le 1 (length c.members) && nat_le (length c.members) MAX_MEMBERS) (list_all is_node c.members) sized h.each) h.ascend in
    let leads : is_among c.members c.leader ≡ true = h.leads in
    let proposer : nat_le c.by MAX_NODES ≡ true = grind (arith, nat_tests) in
    let numbers : (is_shard c.shard && is_epoch c.epoch && nat_le c.by MAX_NODES) ≡ true = both (is_shard c.shard && is_epoch c.epoch) (nat_le c.by MAX_NODES) (both (is_shard c.shard) (is_epoch c.epoch) h.shard h.epoch) proposer in
    rw (members, leads, numbers) refl

-- shards that ascend from a least one on are no more than there are from it on
few_from : (least : ℕ) (shards : List ℕ) → least ≤ MAX_SHARDS → list_all is_shard shards ≡ true → ascends (least ∷ shards) ≡ true → length shards + least ≤ MAX_SHARDS
few_from least [] within each h = omega arith
few_from least (s ∷ ss) within each h =
    let here : is_shard s ≡ true = left_of (is_shard s) (list_all is_shard ss) each in
    let high : s ≤ MAX_SHARDS = grind (arith, nat_tests) in
    let first : nat_lt least s ≡ true = left_of (nat_lt least s) (ascends (s ∷ ss)) h in
    let above : least + 1 ≤ s = grind (arith, nat_tests) in
    let rest = few_from s ss high (right_of (is_shard s) (list_all is_shard ss) each) (right_of (nat_lt least s) (ascends (s ∷ ss)) h) in
    omega arith

-- a set of shards has at most all of them
pub few_shards : (shards : List ℕ) → IsShardSet shards → length shards ≤ MAX_SHARDS
few_shards [] h = omega arith
few_shards (s ∷ ss) h =
    let here : is_shard s ≡ true = left_of (is_shard s) (list_all is_shard ss) h.each in
    let high : s ≤ MAX_SHARDS = grind (arith, nat_tests) in
    let low : 1 ≤ s = grind (arith, nat_tests) in
    let rest = few_from s ss high (right_of (is_shard s) (list_all is_shard ss) h.each) h.ascend in
    omega arith
