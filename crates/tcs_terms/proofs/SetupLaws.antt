-- Parts are a setup exactly where they have no fault.
use Rattle.std.proofs.Common.{◌≡◌, ℕ, zero, suc, ◌+◌, true, not, ◌&&◌, ◌||◌, List, [], ◌∷◌, length, map, All, None, refl, sym, ◌∙◌, ap, arith}
use Rattle.std.specs.Prelude.{nat_le, ◌==◌}
use Rattle.std.specs.List.{list_all, range_with_len}
use Rattle.std.proofs.lemmas.Bool.{eqb-true}
use Rattle.std.proofs.lemmas.Bool.Decides.{nat_tests}
use Rattle.tcs_terms.specs.declared.limits.TheConstants.{MAX_SHARDS, MAX_NODES}
use Rattle.tcs_terms.specs.declared.faults.BadSetup.TheVariants.{Configs}
use Rattle.tcs_terms.specs.Places.{Membership, IsMembership}
use Rattle.tcs_terms.specs.Setups.{Deployment, IsDeployment, is_first}
use Rattle.tcs_terms.specs.SetupFaults.{firsts_from, may_be_nodes, setup_fault}
use Rattle.tcs_terms.proofs.BoolLaws.{both, left_of, right_of, not_true, passed}

firsts_are : (nodes : List ℕ) (k : ℕ) (cs : List Membership) → firsts_from nodes k cs ≡ true → (map (λ c. c.shard) cs ≡ range_with_len k (length cs)) × (list_all (is_first nodes) cs ≡ true)
firsts_are nodes k [] h = (refl, refl)
firsts_are nodes k (c ∷ cs) h =
    let shard = eqb-true c.shard k (left_of (c.shard == k) (is_first nodes c && firsts_from nodes (k + 1) cs) h) in
    let others = right_of (c.shard == k) (is_first nodes c && firsts_from nodes (k + 1) cs) h in
    let rest = firsts_are nodes (k + 1) cs (right_of (is_first nodes c) (firsts_from nodes (k + 1) cs) others) in
    (rw (shard, rest.0) refl, both (is_first nodes c) (list_all (is_first nodes) cs) (left_of (is_first nodes c) (firsts_from nodes (k + 1) cs) others) rest.1)

no_first : (x : ℕ) (xs : List ℕ) → [] ≡ x ∷ xs → ⊥
no_first x xs e = absurd cc

first_is : (x y : ℕ) (xs ys : List ℕ) → x ∷ xs ≡ y ∷ ys → x ≡ y
first_is x y xs ys e = cc

rest_is : (x y : ℕ) (xs ys : List ℕ) → x ∷ xs ≡ y ∷ ys → xs ≡ ys
rest_is x y xs ys e = cc

are_firsts : (nodes : List ℕ) (k n : ℕ) (cs : List Membership) → map (λ c. c.shard) cs ≡ range_with_len k n → list_all (is_first nodes) cs ≡ true → (length cs ≡ n) × (firsts_from nodes k cs ≡ true)
are_firsts nodes k zero [] h first = (refl, refl)
are_firsts nodes k (suc n) [] h first = absurd (no_first k (range_with_len (k + 1) n) h)
are_firsts nodes k zero (c ∷ cs) h first = absurd (no_first c.shard (map (λ x. x.shard) cs) (sym h))
are_firsts nodes k (suc n) (c ∷ cs) h first =
    let head : c.shard ≡ k = first_is c.shard k (map (λ x. x.shard) cs) (range_with_len (k + 1) n) h in
    let tail = rest_is c.shard k (map (λ x. x.shard) cs) (range_with_len (k + 1) n) h in
    let rest = are_firsts nodes (k + 1) n cs tail (right_of (is_first nodes c) (list_all (is_first nodes) cs) first) in
    let numbered : (c.shard == k) ≡ true = grind (arith, nat_tests) in (
      ap suc rest.0,
      both (c.shard == k) (is_first nodes c && firsts_from nodes (k + 1) cs) numbered
          (both (is_first nodes c) (firsts_from nodes (k + 1) cs) (left_of (is_first nodes c) (list_all (is_first nodes) cs) first) rest.1),
    )

pub is_deployment_without_fault : (d : Deployment) → All IsMembership d.configs → setup_fault d ≡ None → IsDeployment d
is_deployment_without_fault d configs h =
    let a = passed (not ((d.version == 1) || (d.version == 2))) _ _ h in
    let b = passed (not (nat_le 1 d.shards && nat_le d.shards MAX_SHARDS)) _ _ a.1 in
    let c = passed (not (may_be_nodes d.shards d.nodes)) _ _ b.1 in
    let e = passed (not ((length d.configs == d.shards) && firsts_from d.nodes 1 d.configs)) Configs None c.1 in
    let shards = not_true (nat_le 1 d.shards && nat_le d.shards MAX_SHARDS) b.0 in
    let nodes = not_true (may_be_nodes d.shards d.nodes) c.0 in
    let sized = left_of (nat_le 1 (length d.nodes) && nat_le (length d.nodes) MAX_NODES) (list_all (λ s. nat_le 1 s && nat_le s d.shards) d.nodes) nodes in
    let firsts = not_true ((length d.configs == d.shards) && firsts_from d.nodes 1 d.configs) e.0 in
    let count = eqb-true (length d.configs) d.shards (left_of (length d.configs == d.shards) (firsts_from d.nodes 1 d.configs) firsts) in
    let each = firsts_are d.nodes 1 d.configs (right_of (length d.configs == d.shards) (firsts_from d.nodes 1 d.configs) firsts) in
    record {
      version = not_true ((d.version == 1) || (d.version == 2)) a.0;
      some_shards = grind (arith, nat_tests);
      few_shards = grind (arith, nat_tests);
      some_nodes = grind (arith, nat_tests);
      few_nodes = grind (arith, nat_tests);
      nodes = right_of (nat_le 1 (length d.nodes) && nat_le (length d.nodes) MAX_NODES) (list_all (λ s. nat_le 1 s && nat_le s d.shards) d.nodes) nodes;
      one_each = each.0 ∙ ap (range_with_len 1) count;
      first = each.1;
      configs = configs;
    }

pub no_fault_of_a_deployment : (d : Deployment) → IsDeployment d → setup_fault d ≡ None
no_fault_of_a_deployment d h =
    let some_shards = h.some_shards in
    let few_shards = h.few_shards in
    let some_nodes = h.some_nodes in
    let few_nodes = h.few_nodes in
    let version : ((d.version == 1) || (d.version == 2)) ≡ true = h.version in
    let shards : (nat_le 1 d.shards && nat_le d.shards MAX_SHARDS) ≡ true = grind (arith, nat_tests) in
    let sized : (nat_le 1 (length d.nodes) && nat_le (length d.nodes) MAX_NODES) ≡ true = grind (arith, nat_tests) in
    let nodes : may_be_nodes d.shards d.nodes ≡ true = both (nat_le 1 (length d.nodes) && nat_le (length d.nodes) MAX_NODES) (list_all (λ s. nat_le 1 s && nat_le s d.shards) d.nodes) sized h.nodes in
    let firsts = are_firsts d.nodes 1 d.shards d.configs h.one_each h.first in
    let len = firsts.0 in
    let count : (length d.configs == d.shards) ≡ true = grind (arith, nat_tests) in
    let configs : ((length d.configs == d.shards) && firsts_from d.nodes 1 d.configs) ≡ true = both (length d.configs == d.shards) (firsts_from d.nodes 1 d.configs) count firsts.1 in
    rw (version, shards, nodes, configs) refl
