-- The nodes of a run, one after the other: as they begin, and with one written in its place.
use Rattle.std.proofs.Common.{◌≡◌, ℕ, zero, suc, ◌+◌, ◌<◌, ◌≤◌, true, ◌&&◌, List, [], ◌∷◌, ◌++◌, length, map, get_or, set, Option, Some, None, refl, sym, ap, subst, ◌∙◌, arith}
use Rattle.std.specs.Prelude.{slice_get, nat_le, IsTrue}
use Rattle.std.specs.List.{list_all, range_with_len, AllByRecursion}
use Rattle.std.specs.Option.{option_map}
use Rattle.std.proofs.lemmas.List.{length-set}
use Rattle.std.proofs.lemmas.Option.{slice_get-map, slice_get-get_or, slice_get_within}
use Rattle.std.proofs.lemmas.Bool.Decides.{nat_tests}
use Rattle.tcs_terms.specs.declared.limits.TheConstants.{MAX_NODES}
use Rattle.tcs_terms.specs.Places.{Membership, is_node, is_shard}
use Rattle.tcs_terms.specs.Setups.{Deployment, IsDeployment}
use Rattle.tcs_terms.proofs.BoolLaws.{left_of, right_of}
use Rattle.protocol.specs.Records.{NodeRecord}
use Rattle.protocol.specs.World.{first_node, first_nodes}
use Rattle.node_core.specs.State.{NodeState}
use Rattle.world.specs.Nodes.{ArePeers}

-- nodes as they begin, with one more
pub first_nodes-more : (configs : List Membership) (name : ℕ) (shards : List ℕ) (shard : ℕ)
    → first_nodes configs name (shards ++ shard ∷ []) ≡ first_nodes configs name shards ++ first_node configs (name + length shards) shard ∷ []
unfolding first_nodes
first_nodes-more configs name [] shard = ap (λ n. first_node configs n shard ∷ []) (omega arith)
first_nodes-more configs name (s ∷ ss) shard =
    ap (λ ns. first_node configs name s ∷ ns) (first_nodes-more configs (name + 1) ss shard
    ∙ ap (λ n. first_nodes configs (name + 1) ss ++ first_node configs n shard ∷ []) (let e : name + 1 + length ss ≡ name + suc (length ss) = omega arith in e))

-- how many nodes begin
pub first_nodes-count : (configs : List Membership) (name : ℕ) (shards : List ℕ) → length (first_nodes configs name shards) ≡ length shards
unfolding first_nodes
first_nodes-count configs name [] = refl
first_nodes-count configs name (s ∷ ss) = ap suc (first_nodes-count configs (name + 1) ss)

-- what holds of each holds of one more
pub each-more : {X : Type 0} (P : X → Type 0) (xs : List X) (x : X) → AllByRecursion P xs → P x → AllByRecursion P (xs ++ x ∷ [])
each-more P [] x all here = (here, tt)
each-more P (y ∷ ys) x all here = (all.0, each-more P ys x all.1 here)

-- and where one is written in the place of another
pub each-set : {X : Type 0} (P : X → Type 0) (xs : List X) (i : ℕ) (x : X) → AllByRecursion P xs → P x → AllByRecursion P (set xs i x)
each-set P [] i x all here = tt
each-set P (y ∷ ys) zero x all here = (here, all.1)
each-set P (y ∷ ys) (suc i) x all here = (all.0, each-set P ys i x all.1 here)

-- and of the one in a place
pub each-at : {X : Type 0} (P : X → Type 0) (xs : List X) (i : ℕ) (d : X) → AllByRecursion P xs → i < length xs → P (get_or xs i d)
each-at P [] i d all lt = absurd (omega arith)
each-at P (y ∷ ys) zero d all lt = all.0
each-at P (y ∷ ys) (suc i) d all lt = each-at P ys i d all.1 (omega arith)

-- a shard of a node is one of the setup
pub shard_of_node : (setup : Deployment) (i : ℕ) (d : ℕ) → IsDeployment setup → i < length setup.nodes → IsTrue (is_shard (get_or setup.nodes i d))
shard_of_node setup i d is lt = go setup.nodes i is.nodes lt
  where
    one : (s : ℕ) → (nat_le 1 s && nat_le s setup.shards) ≡ true → is_shard s ≡ true
    one s h = let few = is.few_shards in grind (arith, nat_tests)

    go : (shards : List ℕ) (i : ℕ) → list_all (λ s. nat_le 1 s && nat_le s setup.shards) shards ≡ true → i < length shards → is_shard (get_or shards i d) ≡ true
    go [] i h lt = absurd (omega arith)
    go (s ∷ ss) zero h lt = one s (left_of (nat_le 1 s && nat_le s setup.shards) (list_all (λ x. nat_le 1 x && nat_le x setup.shards) ss) h)
    go (s ∷ ss) (suc i) h lt = go ss i (right_of (nat_le 1 s && nat_le s setup.shards) (list_all (λ x. nat_le 1 x && nat_le x setup.shards) ss) h) (omega arith)

pub node_named : (name : ℕ) → 1 ≤ name → name ≤ MAX_NODES → IsTrue (is_node name)
node_named name low high = grind (arith, nat_tests)

-- the node in a place, as it is kept and as it is seen
pub record Kept (version : ℕ) (x : NodeState) (node : NodeRecord) : Type 0 where
  pub record_is : x.kept ≡ node
  pub version_is : x.version ≡ version

pub peer_found : (version : ℕ) (nodes : List NodeState) (i : ℕ) (x : NodeState) (node : NodeRecord) → ArePeers version nodes
    → slice_get (map (λ n. n.kept) nodes) i ≡ Some node → x ≡ get_or nodes i x → Kept version x node
peer_found version nodes i x node a there is =
    let seen : option_map (λ (n : NodeState). n.kept) (slice_get nodes i) ≡ Some node = sym (slice_get-map (λ (n : NodeState). n.kept) nodes i) ∙ there in
    let within : i < length nodes = go (slice_get nodes i) refl seen in
    let at : slice_get nodes i ≡ Some x = slice_get-get_or nodes i x within ∙ ap (λ y. Some y) (sym is) in
    record {
      record_is = some_same (ap (option_map (λ (n : NodeState). n.kept)) (sym at) ∙ seen);
      version_is = subst (λ (y : NodeState). y.version ≡ version) (sym is) (each-at (λ (y : NodeState). y.version ≡ version) nodes i x a.versions within);
    }
  where
    go : (o : Option NodeState) → slice_get nodes i ≡ o → option_map (λ (n : NodeState). n.kept) o ≡ Some node → i < length nodes
    go None e h = absurd cc
    go (Some y) e h = slice_get_within nodes i y e

    some_same : {X : Type 0} {a b : X} → Some a ≡ Some b → a ≡ b
    some_same h = cc h

-- nodes with one written in the place of another
pub with_peer : (version : ℕ) (nodes : List NodeState) (i : ℕ) (x : NodeState) → ArePeers version nodes → x.version ≡ version → ArePeers version (set nodes i x)
with_peer version nodes i x a same = record {
  few = omega (arith, a.few, length-set nodes i x);
  versions = each-set (λ (n : NodeState). n.version ≡ version) nodes i x a.versions same;
}

-- the nodes that begin are named from the first name on
pub first_nodes-named : (configs : List Membership) (name : ℕ) (shards : List ℕ)
    → map (λ n. n.name) (first_nodes configs name shards) ≡ range_with_len name (length (first_nodes configs name shards))
unfolding first_nodes first_node
first_nodes-named configs name [] = refl
first_nodes-named configs name (s ∷ ss) = ap (λ ns. name ∷ ns) (first_nodes-named configs (name + 1) ss)
