-- Lemmas on the nodes with which a run begins.
use Rattle.std.proofs.Common.{◌≡◌, ℕ, zero, suc, ◌+◌, ◌<◌, ◌≤◌, List, [], ◌∷◌, map, inl, inr, sym, ◌∙◌, ap, subst, refl, arith, length, slice_index}
use Rattle.std.specs.List.{range_with_len}
use Rattle.tcs_terms.specs.Places.{Membership}
use Rattle.protocol.specs.Records.{NodeRecord}
use Rattle.protocol.specs.World.{first_node, first_nodes}
use Rattle.protocol.specs.Invariant.Time.{StandsIn}

-- a node as it begins, with its name and shard
pub record IsFirst (configs : List Membership) (from : ℕ) (node : NodeRecord) : Type 0 where
  pub name : ℕ
  pub shard : ℕ
  pub above : from ≤ name
  pub is : node ≡ first_node configs name shard

pub first_nodes-IsFirst : (configs : List Membership) (from : ℕ) (shards : List ℕ) (node : NodeRecord) → StandsIn node (first_nodes configs from shards) → IsFirst configs from node
unfolding first_nodes
first_nodes-IsFirst configs from [] node s = absurd s
first_nodes-IsFirst configs from (x ∷ xs) node (inl e) = record { name = from; shard = x; above = omega arith; is = e }
first_nodes-IsFirst configs from (x ∷ xs) node (inr s) =
    let r : IsFirst configs (from + 1) node = first_nodes-IsFirst configs (from + 1) xs node s in
    record { name = r.name; shard = r.shard; above = omega (arith, r.above); is = r.is }

pub first_node-name : (configs : List Membership) (name shard : ℕ) → (first_node configs name shard).name ≡ name
unfolding first_node
first_node-name configs name shard = refl

-- two of them with one name are one
pub first_nodes-name : (configs : List Membership) (from : ℕ) (shards : List ℕ) (a b : NodeRecord) → StandsIn a (first_nodes configs from shards) → StandsIn b (first_nodes configs from shards) → a.name ≡ b.name → a ≡ b
unfolding first_nodes
first_nodes-name configs from [] a b s r e = absurd s
first_nodes-name configs from (x ∷ xs) a b (inl p) (inl q) e = p ∙ sym q
first_nodes-name configs from (x ∷ xs) a b (inl p) (inr r) e =
    let g : IsFirst configs (from + 1) b = first_nodes-IsFirst configs (from + 1) xs b r in
    let n : b.name ≡ g.name = ap (λ m. m.name) g.is ∙ first_node-name configs g.name g.shard in
    let m : a.name ≡ from = ap (λ m. m.name) p ∙ first_node-name configs from x in
    absurd (omega (arith, g.above, n, m, e))
first_nodes-name configs from (x ∷ xs) a b (inr s) (inl q) e =
    let g : IsFirst configs (from + 1) a = first_nodes-IsFirst configs (from + 1) xs a s in
    let n : a.name ≡ g.name = ap (λ m. m.name) g.is ∙ first_node-name configs g.name g.shard in
    let m : b.name ≡ from = ap (λ m. m.name) q ∙ first_node-name configs from x in
    absurd (omega (arith, g.above, n, m, e))
first_nodes-name configs from (x ∷ xs) a b (inr s) (inr r) e = first_nodes-name configs (from + 1) xs a b s r e

-- the names ascend from the first one on
pub first_nodes-names : (configs : List Membership) (from : ℕ) (shards : List ℕ) → map (λ n. n.name) (first_nodes configs from shards) ≡ range_with_len from (length shards)
unfolding first_nodes first_node
first_nodes-names configs from [] = refl
first_nodes-names configs from (x ∷ xs) = ap (λ ns. from ∷ ns) (first_nodes-names configs (from + 1) xs)

pub first_nodes-shards : (configs : List Membership) (from : ℕ) (shards : List ℕ) → map (λ n. n.shard) (first_nodes configs from shards) ≡ shards
unfolding first_nodes first_node
first_nodes-shards configs from [] = refl
first_nodes-shards configs from (x ∷ xs) = ap (λ ns. x ∷ ns) (first_nodes-shards configs (from + 1) xs)

-- the node of each place
pub first_nodes-at : (configs : List Membership) (from : ℕ) (shards : List ℕ) (at : ℕ) → at < length shards → StandsIn (first_node configs (from + at) (slice_index shards at)) (first_nodes configs from shards)
unfolding first_nodes
first_nodes-at configs from [] at h = absurd (omega (arith, h))
first_nodes-at configs from (x ∷ xs) zero h = inl (let e : from + 0 ≡ from = omega arith in ap (λ n. first_node configs n x) e)
first_nodes-at configs from (x ∷ xs) (suc at) h =
    let e : from + suc at ≡ from + 1 + at = omega arith in
    inr (subst (λ n. StandsIn (first_node configs n (slice_index xs at)) (first_nodes configs (from + 1) xs)) (sym e) (first_nodes-at configs (from + 1) xs at (omega (arith, h))))
