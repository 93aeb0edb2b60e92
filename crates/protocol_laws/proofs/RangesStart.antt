-- A world begins in range, and an event that fits the setup is in range.
use Rattle.std.proofs.Common.{◌≡◌, ℕ, zero, suc, ◌+◌, ◌≤◌, Bool, true, false, cond, IsTrue, ◌&&◌, ◌==◌, nat_le, List, [], ◌∷◌, length, Option, Some, None, inl, inr, sym, ◌∙◌, ap, subst, refl, arith}
use Rattle.std.specs.List.{list_all, range_with_len}
use Rattle.std.proofs.lemmas.Bool.Decides.{nat_tests}
use Rattle.std.proofs.lemmas.List.{length-map}
use Rattle.std.proofs.lemmas.List.Elements.{All-nil}
use Rattle.tcs_terms.specs.declared.inputs.Event.{Event}
use Rattle.tcs_terms.specs.declared.inputs.Event.TheVariants.{Call, DeliverNumber, Stop}
use Rattle.tcs_terms.specs.declared.inputs.Input.{Input}
use Rattle.tcs_terms.specs.declared.inputs.Input.TheVariants as inputs
use Rattle.tcs_terms.specs.declared.limits.TheConstants.{MAX_SHARDS, MAX_NODES, MAX_EPOCH, MAX_WANTED}
use Rattle.tcs_terms.specs.Events.{input_fits, has_shard, InputInRange}
use Rattle.tcs_terms.specs.Messages.{AreSentRows}
use Rattle.tcs_terms.specs.Order.{ascends}
use Rattle.tcs_terms.specs.Places.{Membership, IsMembership, is_node, is_shard, is_among}
use Rattle.tcs_terms.specs.Setups.{Deployment, IsDeployment, has_node, is_node_of}
use Rattle.tcs_terms.proofs.BoolLaws.{both, left_of, right_of}
use Rattle.protocol.specs.Records.{Role, NodeRecord}
use Rattle.protocol.specs.Records.Role.{Fenced, Leader, Follower}
use Rattle.protocol.specs.Views.{view_of}
use Rattle.protocol.specs.World.{first_role, first_epoch, first_node, first_nodes, first_world}
use Rattle.protocol.specs.Invariant.Time.{StandsIn}
use Rattle.protocol.proofs.Lists.{all-StandsIn, find-StandsIn}
use Rattle.protocol_laws.specs.Ranges.{IsRoleInRange, AreViews, IsNodeInRange, IsInputInRange, ComesFromNode, IsNoteInRange, IsSentInRange, IsWorldInRange, IsEventInRange}
use Rattle.tcs_terms.specs.Runs.{IsInput, MayStand}
use Rattle.protocol_laws.proofs.AllOf.{all-at, all-of}
use Rattle.protocol_laws.proofs.RangesRows.{HasEntry}
use Rattle.protocol_laws.proofs.Standing.{all-from}

-- a role as it begins
role-starts : (views : List Membership) (name : ℕ) (o : Option Membership) → ((c : Membership) → o ≡ Some c → IsMembership c) → IsRoleInRange (first_role name o)
role-starts views name None k = tt
role-starts views name (Some c) k = go (c.leader == name) (is_among c.members name)
  where
    go : (leads follows : Bool) → IsRoleInRange (cond leads (Leader c) (cond follows (Follower c) Fenced))
    go true follows = k c refl
    go false true = k c refl
    go false false = tt

epoch-starts : (role : Role) → first_epoch role ≤ MAX_EPOCH
epoch-starts Fenced = omega arith
epoch-starts (Leader c) = omega arith
epoch-starts (Follower c) = omega arith

-- an empty log
no-rows : AreSentRows []
no-rows = record { in_order = record { slots_ascend = refl; slots = refl; txns_differ = refl }; entries = All-nil HasEntry }

-- a node as it begins
pub first_node-in_range : (configs : List Membership) (name shard : ℕ) → AreViews configs → IsTrue (is_node name) → IsTrue (is_shard shard) → IsNodeInRange (first_node configs name shard)
unfolding first_node
first_node-in_range configs name shard views n s =
    let role : Role = first_role name (view_of configs shard) in
    record {
      name = n;
      shard = s;
      role = role-starts configs name (view_of configs shard) (λ c e. all-at IsMembership configs views.configs c (find-StandsIn (λ (v : Membership). v.shard == shard) configs c e).0);
      state = epoch-starts role;
      promised = epoch-starts role;
      rows = no-rows;
      from_one = omega arith;
      next = omega arith;
      coordinator = record { views = views; cases = All-nil _ };
      prober = tt;
      outcomes = All-nil _;
      gathering = tt;
    }

range-length : (from count : ℕ) → length (range_with_len from count) ≡ count
range-length from zero = refl
range-length from (suc n) = ap suc (range-length (from + 1) n)

-- the first configurations are views
pub first_views : (setup : Deployment) → IsDeployment setup → AreViews setup.configs
first_views setup d =
    let size : length setup.configs ≡ setup.shards = sym (length-map setup.configs (λ (c : Membership). c.shard)) ∙ ap (λ (ns : List ℕ). length ns) d.one_each ∙ range-length 1 setup.shards in
    record {
      some = subst (λ n. 1 ≤ n) (sym size) d.some_shards;
      few = subst (λ n. n ≤ MAX_SHARDS) (sym size) d.few_shards;
      in_order = d.one_each ∙ ap (range_with_len 1) (sym size);
      configs = d.configs;
    }

a_node : (n : ℕ) → 1 ≤ n → n ≤ MAX_NODES → is_node n ≡ true
a_node n p q = grind (arith, nat_tests)

a_shard : (n shards : ℕ) → shards ≤ MAX_SHARDS → (nat_le 1 n && nat_le n shards) ≡ true → is_shard n ≡ true
a_shard n shards few p = grind (arith, nat_tests)

-- the nodes with which a run begins
nodes-start : (configs : List Membership) (shards from : ℕ) (nodes : List ℕ) → AreViews configs → shards ≤ MAX_SHARDS → 1 ≤ from → from + length nodes ≤ MAX_NODES + 1 → list_all (λ s. nat_le 1 s && nat_le s shards) nodes ≡ true
    → (node : NodeRecord) → StandsIn node (first_nodes configs from nodes) → IsNodeInRange node
unfolding first_nodes
nodes-start configs shards from [] views few low high each node s = absurd s
nodes-start configs shards from (x ∷ xs) views few low high each node (inl e) =
    subst IsNodeInRange (sym e) (first_node-in_range configs from x views (a_node from low (omega (arith, high))) (a_shard x shards few (left_of (nat_le 1 x && nat_le x shards) _ each)))
nodes-start configs shards from (x ∷ xs) views few low high each node (inr s) =
    nodes-start configs shards (from + 1) xs views few (omega arith) (omega (arith, high)) (right_of (nat_le 1 x && nat_le x shards) _ each) node s

nodes-few : (configs : List Membership) (from : ℕ) (nodes : List ℕ) → length (first_nodes configs from nodes) ≡ length nodes
unfolding first_nodes
nodes-few configs from [] = refl
nodes-few configs from (x ∷ xs) = ap suc (nodes-few configs (from + 1) xs)

-- the world with which a run begins
pub first_world-in_range : (setup : Deployment) → IsDeployment setup → IsWorldInRange (first_world setup)
unfolding first_world
first_world-in_range setup d = record {
  few = subst (λ n. n ≤ MAX_NODES) (sym (nodes-few setup.configs 1 setup.nodes)) d.few_nodes;
  nodes = all-of IsNodeInRange (first_nodes setup.configs 1 setup.nodes)
      (nodes-start setup.configs setup.shards 1 setup.nodes (first_views setup d) d.few_shards (omega arith) (let few = d.few_nodes in omega (arith, few)) d.nodes);
  configs = d.configs;
  messages = All-nil IsSentInRange;
  history = All-nil IsNoteInRange;
}

-- ---- events

shard-of : (setup : Deployment) (shard : ℕ) → IsDeployment setup → has_shard setup shard ≡ true → is_shard shard ≡ true
shard-of setup shard d h = let few = d.few_shards in grind (arith, nat_tests)

-- wanted nodes are nodes
wanted-nodes : (setup : Deployment) (shard : ℕ) (want : List ℕ) → IsDeployment setup → list_all (is_node_of setup.nodes shard) want ≡ true → list_all is_node want ≡ true
wanted-nodes setup shard want d h = all-from is_node want (λ n s. one n (left_of (has_node setup.nodes n) _ (all-StandsIn (is_node_of setup.nodes shard) want n h s)))
  where
    one : (n : ℕ) → has_node setup.nodes n ≡ true → is_node n ≡ true
    one n p = let few = d.few_nodes in grind (arith, nat_tests)

move-in_range : (setup : Deployment) (shard : ℕ) (want : List ℕ) → IsDeployment setup → input_fits setup (inputs.Move shard want) ≡ true → InputInRange (inputs.Move shard want)
move-in_range setup shard want d h =
    let a = right_of (has_shard setup shard && nat_le (length want) MAX_WANTED && ascends want) (list_all (is_node_of setup.nodes shard) want) h in
    let b = left_of (has_shard setup shard && nat_le (length want) MAX_WANTED && ascends want) (list_all (is_node_of setup.nodes shard) want) h in
    let c = left_of (has_shard setup shard && nat_le (length want) MAX_WANTED) (ascends want) b in
    both (is_shard shard && nat_le (length want) MAX_WANTED && list_all is_node want) (ascends want)
    (both (is_shard shard && nat_le (length want) MAX_WANTED) (list_all is_node want)
    (both (is_shard shard) (nat_le (length want) MAX_WANTED) (shard-of setup shard d (left_of (has_shard setup shard) (nat_le (length want) MAX_WANTED) c)) (right_of (has_shard setup shard) (nat_le (length want) MAX_WANTED) c))
    (wanted-nodes setup shard want d a))
    (right_of (has_shard setup shard && nat_le (length want) MAX_WANTED) (ascends want) b)

-- an event of a run of the setup is in range
pub event-in_range : (setup : Deployment) (event : Event) → IsDeployment setup → MayStand setup event → IsEventInRange event
event-in_range setup (DeliverNumber number) d m = tt
event-in_range setup (Stop node) d m = tt
event-in_range setup (Call node input) d m = go input (right_of (has_node setup.nodes node) (input_fits setup input) m.fits) m.event
  where
    go : (i : Input) → input_fits setup i ≡ true → IsInput i → IsInputInRange i × ComesFromNode i
    go (inputs.Certify payload) h q = ((tt, q), tt)
    go (inputs.Take txn) h q = ((tt, q), tt)
    go inputs.Nudge h q = ((tt, q), tt)
    go (inputs.Move shard want) h q = ((move-in_range setup shard want d h, q), tt)
    go inputs.Lower h q = ((tt, q), tt)
    go (inputs.ReadName name) h q = ((tt, q), tt)
    go (inputs.Ask shard) h q = ((shard-of setup shard d h, q), tt)
    go (inputs.Deliver from message) h q = absurd (cc h)
