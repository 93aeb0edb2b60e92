-- The greatest that holdings have of a counter is the greatest that a node of its shard has.
use Rattle.std.proofs.Common.{◌≡◌, ◌⊎◌, inl, inr, ℕ, ◌+◌, ◌<◌, ◌≤◌, true, false, List, [], ◌∷◌, ◌++◌, map, Some, None, refl, leb-true, leb-false, sym, ◌∙◌, ap, subst, arith}
use Rattle.std.specs.Prelude.{fold, max, nat_le, ◌==◌}
use Rattle.std.specs.List.{range_with_len}
use Rattle.std.specs.Option.{unwrap_or}
use Rattle.std.proofs.lemmas.Bool.{cases_Bool, cond-true, cond-false, eqb-true, eq-eqb}
use Rattle.std.proofs.Math.Nat.{eq-or-lt_of_le}
use Rattle.tcs_terms.specs.declared.limits.TheConstants.{MAX_NODES}
use Rattle.tcs_terms.specs.Shards.{lies_in}
use Rattle.protocol.specs.Invariant.Time.{StandsIn}
use Rattle.protocol.specs.Records.{NodeRecord}
use Rattle.protocol.specs.World.{World, node_of}
use Rattle.protocol_laws.proofs.Numbered.{numbered-above, numbered-below, numbered-one}
use Rattle.protocol_laws.proofs.Standing.{find-none, StandsIn-left, StandsIn-right}
use Rattle.counters.specs.Amounts.{node_total}
use Rattle.counters.specs.Sums.{sum_at}
use Rattle.totals_core.specs.declared.holdings.Holding.{Holding}
use Rattle.totals_core.specs.Holdings.{IsOf, OfOne, HasOne, AreBelow, AreHoldings, IsCountable, holding_of, held_by}
use Rattle.totals_core.specs.Telling.{Holds, IsHeld}

-- ---- the greatest of some

module _ {X : Type 0} (f : X → ℕ) where
  abbrev most : ℕ → List X → ℕ
  most m xs = fold (λ k x. max k (f x)) m xs

  max_left : (a b : ℕ) → a ≤ max a b
  max_left a b = omega arith

  max_right : (a b : ℕ) → b ≤ max a b
  max_right a b = omega arith

  max_one : (a b : ℕ) → (max a b ≡ a) ⊎ (max a b ≡ b)
  max_one a b = elim (cases_Bool (nat_le a b)) [
    | inl le ↦ (let small : a ≤ b = leb-true a b le in inr (omega arith))
    | inr gt ↦ (let great : b < a = leb-false a b gt in inl (omega arith))
  ]

  most_first : (m : ℕ) (xs : List X) → m ≤ most m xs
  most_first m [] = omega arith
  most_first m (x ∷ xs) = let rest = most_first (max m (f x)) xs in let one = max_left m (f x) in omega arith

  most_each : (m : ℕ) (xs : List X) (x : X) → StandsIn x xs → f x ≤ most m xs
  most_each m [] x there = absurd there
  most_each m (y ∷ ys) x (inl e) =
      let rest = most_first (max m (f y)) ys in
      let one = max_right m (f y) in
      let same : f x ≡ f y = ap f e in
      omega arith
  most_each m (y ∷ ys) x (inr s) = most_each (max m (f y)) ys x s

  -- an element that has it
  record Reaches (xs : List X) (m : ℕ) : Type 0 where
    one : X
    there : StandsIn one xs
    has : f one ≡ m

  most_reached : (m : ℕ) (xs : List X) → (most m xs ≡ m) ⊎ Reaches xs (most m xs)
  most_reached m [] = inl refl
  most_reached m (x ∷ xs) = go (most_reached (max m (f x)) xs) (max_one m (f x)) where
    go : (most (max m (f x)) xs ≡ max m (f x)) ⊎ Reaches xs (most (max m (f x)) xs) → (max m (f x) ≡ m) ⊎ (max m (f x) ≡ f x)
        → (most (max m (f x)) xs ≡ m) ⊎ Reaches (x ∷ xs) (most (max m (f x)) xs)
    go (inl e) (inl k) = inl (e ∙ k)
    go (inl e) (inr k) = inr (record { one = x; there = inl refl; has = sym (e ∙ k) })
    go (inr r) k = inr (record { one = r.one; there = inr r.there; has = r.has })

-- ---- of holdings

has_as_node : (shards : ℕ) (name : List ℕ) (h : Holding) (node : NodeRecord) → IsOf h node → lies_in shards node.shard name ≡ true → holding_of shards name h ≡ node_total node.rows name
has_as_node shards name h node is lies =
    let here : lies_in shards h.shard name ≡ true = ap (λ s. lies_in shards s name) is.shard ∙ lies in
    cond-true (lies_in shards h.shard name) (unwrap_or (sum_at h.sums name) 0) 0 here ∙ ap (λ o. unwrap_or o 0) (is.sums name)

pub is_held : (shards : ℕ) (holdings : List Holding) (nodes : List NodeRecord) → AreHoldings holdings nodes → (name : List ℕ) → IsHeld shards nodes name (held_by shards holdings name)
is_held shards holdings nodes are name = record { least = least; reached = reached (most_reached (holding_of shards name) 0 holdings) } where
  least : (node : NodeRecord) → StandsIn node nodes → lies_in shards node.shard name ≡ true → node_total node.rows name ≤ held_by shards holdings name
  least node there lies =
      let h = are.all node there in
      subst (λ k. k ≤ held_by shards holdings name) (has_as_node shards name h.holding node h.is lies) (most_each (holding_of shards name) 0 holdings h.holding h.there)

  of_one : (h : Holding) → OfOne h nodes → holding_of shards name h ≡ held_by shards holdings name → (held_by shards holdings name ≡ 0) ⊎ Holds shards nodes name (held_by shards holdings name)
  of_one h o has = elim (cases_Bool (lies_in shards h.shard name)) [
    | inl lies ↦ (let there : lies_in shards o.node.shard name ≡ true = ap (λ s. lies_in shards s name) (sym o.is.shard) ∙ lies in
        inr (record { node = o.node; there = o.there; lies = there; has = sym (has_as_node shards name h o.node o.is there) ∙ has }))
    | inr out ↦ inl (sym has ∙ cond-false (lies_in shards h.shard name) (unwrap_or (sum_at h.sums name) 0) 0 out)
  ]

  reached : (held_by shards holdings name ≡ 0) ⊎ Reaches (holding_of shards name) holdings (held_by shards holdings name)
      → (held_by shards holdings name ≡ 0) ⊎ Holds shards nodes name (held_by shards holdings name)
  reached (inl e) = inl e
  reached (inr r) = of_one r.one (are.each r.one r.there) r.has

-- ---- node by node

pub below_first : (nodes : List NodeRecord) (count : ℕ) → map (λ n. n.name) nodes ≡ range_with_len 1 count → AreBelow [] nodes 1
below_first nodes count names = record { each = λ h there. absurd there; all = λ node there low. absurd (omega (arith, low, first node there)) } where
  first : (node : NodeRecord) → StandsIn node nodes → 1 ≤ node.name
  first node there = numbered-above (λ n. n.name) nodes 1 count node names there

pub found_there : (nodes : List NodeRecord) (name : ℕ) (node : NodeRecord) → node_of nodes name ≡ Some node → StandsIn node nodes × (node.name ≡ name)
found_there [] name node found = absurd cc
found_there (n ∷ ns) name node found = elim (cases_Bool (n.name == name)) [
  | inl same ↦ (let is : Some n ≡ Some node = sym (cond-true (n.name == name) (Some n) (node_of ns name) same) ∙ found in
      let e : n ≡ node = cc in (inl (sym e), ap (λ (x : NodeRecord). x.name) (sym e) ∙ eqb-true n.name name same))
  | inr apart ↦ (let r = found_there ns name node (sym (cond-false (n.name == name) (Some n) (node_of ns name) apart) ∙ found) in (inr r.0, r.1))
]

-- a node of this name was found, and its holding was pushed
pub below_found : (nodes : List NodeRecord) (count name : ℕ) (holdings : List Holding) (h : Holding) (node : NodeRecord) → map (λ n. n.name) nodes ≡ range_with_len 1 count
    → node_of nodes name ≡ Some node → IsOf h node → AreBelow holdings nodes name → AreBelow (holdings ++ h ∷ []) nodes (name + 1)
below_found nodes count name holdings h node names found is below = record {
  each = λ g there. each g (StandsIn-split holdings g there);
  all = λ n there low. all n there (eq-or-lt_of_le (omega (arith, low)));
}
  where
    here : StandsIn node nodes × (node.name ≡ name)
    here = found_there nodes name node found

    StandsIn-split : (xs : List Holding) (g : Holding) → StandsIn g (xs ++ h ∷ []) → StandsIn g xs ⊎ (g ≡ h)
    StandsIn-split [] g (inl e) = inr e
    StandsIn-split [] g (inr s) = absurd s
    StandsIn-split (x ∷ xs) g (inl e) = inl (inl e)
    StandsIn-split (x ∷ xs) g (inr s) = later (StandsIn-split xs g s) where
      later : StandsIn g xs ⊎ (g ≡ h) → StandsIn g (x ∷ xs) ⊎ (g ≡ h)
      later (inl t) = inl (inr t)
      later (inr e) = inr e

    each : (g : Holding) → StandsIn g holdings ⊎ (g ≡ h) → OfOne g nodes
    each g (inl s) = below.each g s
    each g (inr e) = subst (λ (x : Holding). OfOne x nodes) (sym e) (record { node = node; there = here.0; is = is })

    all : (n : NodeRecord) → StandsIn n nodes → (n.name ≡ name) ⊎ (n.name < name) → HasOne (holdings ++ h ∷ []) n
    all n there (inl e) =
        let same : node ≡ n = numbered-one (λ m. m.name) nodes 1 count node n names here.0 there (here.1 ∙ sym e) in
        record { holding = h; there = StandsIn-right holdings (h ∷ []) h (inl refl); is = subst (IsOf h) same is }
    all n there (inr low) =
        let one = below.all n there low in
        record { holding = one.holding; there = StandsIn-left holdings (h ∷ []) one.holding one.there; is = one.is }

-- no node has this name
pub below_none : (nodes : List NodeRecord) (name : ℕ) (holdings : List Holding) → node_of nodes name ≡ None → AreBelow holdings nodes name → AreBelow holdings nodes (name + 1)
below_none nodes name holdings none below = record { each = below.each; all = λ n there low. all n there (eq-or-lt_of_le (omega (arith, low))) } where
  all : (n : NodeRecord) → StandsIn n nodes → (n.name ≡ name) ⊎ (n.name < name) → HasOne holdings n
  all n there (inl e) =
      let apart : (n.name == name) ≡ false = find-none (λ m. m.name == name) nodes n none there in
      let same : (n.name == name) ≡ true = eq-eqb n.name name e in
      absurd cc
  all n there (inr low) = below.all n there low

pub below_all : (w : World) (holdings : List Holding) → IsCountable w → AreBelow holdings w.nodes (MAX_NODES + 1) → AreHoldings holdings w.nodes
below_all w holdings c below = record {
  each = below.each;
  all = λ node there. below.all node there (omega (arith, numbered-below (λ n. n.name) w.nodes 1 c.count node c.names there, c.few));
}
