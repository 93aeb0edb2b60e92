-- The invariant holds as a run begins.
use Rattle.std.proofs.Common.{◌≡◌, ℕ, ◌+◌, ◌-◌, ◌≤◌, true, cond, List, [], ◌∷◌, ◌++◌, map, Some, None, ◌==◌, ◌⊎◌, inl, inr, sym, ◌∙◌, ap, subst, refl, arith, length, slice_index, eqb-true, eq-eqb, leb-true, nat_le, IsTrue}
use Rattle.tcs_terms.specs.declared.logs.Row.{Row}
use Rattle.tcs_terms.specs.Logs.{AreRows, txns_differ}
use Rattle.tcs_terms.specs.Places.{Membership, is_among}
use Rattle.tcs_terms.specs.Preparations.{Preparation}
use Rattle.tcs_terms.specs.Setups.{Deployment, IsDeployment, is_node_of, has_node}
use Rattle.tcs_laws.specs.Certification.{Tests}
use Rattle.protocol.specs.Records.{NodeRecord}
use Rattle.protocol.specs.Records.Role.{Fenced, Leader, Follower}
use Rattle.protocol.specs.Records.Stage.{Idle}
use Rattle.protocol.specs.Views.{view_of}
use Rattle.protocol.specs.World.{World, first_node, first_node_as, first_nodes, first_role, first_world}
use Rattle.protocol.specs.Invariant.{InvariantHolds}
use Rattle.protocol.specs.Invariant.Time.{StandsIn, IsNode, IsStored, WasIn, time_after}
use Rattle.protocol.specs.Invariant.Logs.{entries_of, Reached, Held, BecameLeader, Initial, HasInitial, Listed}
use Rattle.protocol.specs.Invariant.Configurations.{ConfigurationsHold, configs_of, role_configs, probed_configs, gathered_configs, WantsNodes}
use Rattle.protocol.specs.Invariant.Promises.{PromisesHold}
use Rattle.protocol.specs.Invariant.Answers.{AnswersHold}
use Rattle.protocol.specs.Invariant.Choice.{ChoiceHolds, StageHolds}
use Rattle.protocol.specs.Invariant.Transfer.{TransferHolds}
use Rattle.protocol.specs.Invariant.Entries.{EntriesHold}
use Rattle.protocol.specs.Invariant.Transactions.{TransactionsHold}
use Rattle.protocol.specs.Invariant.Decisions.{DecisionsHold}
use Rattle.protocol.specs.Invariant.Readings.{ReadingsHold}
use Rattle.tcs_terms.specs.declared.inputs.Note.{Note}
use Rattle.tcs_terms.specs.declared.inputs.Note.TheVariants.{ReadValue}
use Rattle.protocol.proofs.Lists.{all-StandsIn, among-StandsIn, StandsIn-append}
use Rattle.protocol.proofs.FirstNodes.{IsFirst, first_nodes-IsFirst, first_nodes-name, first_nodes-names, first_nodes-shards, first_nodes-at}
use Rattle.protocol.proofs.FirstConfigs.{view_of-first, epochs_fit}
use Rattle.protocol.proofs.FirstRoles.{start, IsStarted, IsFirstConfig, first_configs, first_node-IsStarted}
use Rattle.tcs_terms.proofs.BoolLaws.{left_of, right_of}

-- a node as it begins has nothing but its role and its views
pub record IsFresh (setup : Deployment) (node : NodeRecord) : Type 0 where
  pub started : IsStarted (start setup) node
  pub rows : node.rows ≡ []
  pub views : node.coordinator.views ≡ setup.configs
  pub cases : node.coordinator.cases ≡ []
  pub prober : node.prober ≡ Idle
  pub outcomes : node.outcomes ≡ []
  pub gathering : node.gathering ≡ None

first_node-IsFresh : (setup : Deployment) → IsDeployment setup → (name shard : ℕ) → IsFresh setup (first_node setup.configs name shard)
unfolding first_node
first_node-IsFresh setup d name shard = record { started = first_node-IsStarted setup d name shard; rows = refl; views = refl; cases = refl; prober = refl; outcomes = refl; gathering = refl }

node-IsFresh : (setup : Deployment) → IsDeployment setup → (node : NodeRecord) → IsNode (start setup) node → IsFresh setup node
unfolding start first_world
node-IsFresh setup d node s =
    let f : IsFirst setup.configs 1 node = first_nodes-IsFirst setup.configs 1 setup.nodes node s in
    subst (λ n. IsFresh setup n) (sym f.is) (first_node-IsFresh setup d f.name f.shard)

-- what was so far is so now
was_now : (setup : Deployment) (epoch name : ℕ) (node : NodeRecord) → WasIn (start setup) epoch name node → IsNode (start setup) node
unfolding start
was_now setup epoch name node w = go w.past
  where
    go : (w.moment ≡ first_world setup) ⊎ ⊥ → StandsIn node (first_world setup).nodes
    go (inl e) = subst (λ m. StandsIn node m.nodes) e w.there
    go (inr e) = absurd e

nothing_held : (setup : Deployment) → IsDeployment setup → (epoch name : ℕ) (x : Preparation) → Held (start setup) epoch name x → ⊥
nothing_held setup d epoch name x h =
    let f : IsFresh setup h.node = node-IsFresh setup d h.node (was_now setup epoch name h.node h.was) in
    subst (λ rows. StandsIn x (entries_of rows)) f.rows h.holds

one_moment : (w a b : World) (later earlier : List World) → w ∷ [] ≡ later ++ (a ∷ b ∷ earlier) → ⊥
one_moment w a b [] earlier h = cc h
one_moment w a b (x ∷ []) earlier h = cc h
one_moment w a b (x ∷ y ∷ later) earlier h = cc h

nobody_became : (setup : Deployment) (c : Membership) (rows : List Row) → BecameLeader (start setup) c rows → ⊥
unfolding start
nobody_became setup c rows b = one_moment (first_world setup) b.after b.before b.later b.earlier b.moments

-- the initial entries are none
initial_is_none : (setup : Deployment) (c : Membership) (xs : List Preparation) → Initial (start setup) c xs → xs ≡ []
initial_is_none setup c xs i = go i.begun
  where
    go : ((c.epoch ≡ 1) × (xs ≡ [])) ⊎ ((rows : List Row) × BecameLeader (start setup) c rows × (xs ≡ entries_of rows)) → xs ≡ []
    go (inl p) = p.1
    go (inr p) = absurd (nobody_became setup c p.0 p.1)

stored_is_first : (setup : Deployment) → IsDeployment setup → (c : Membership) → IsStored (start setup) c → IsFirstConfig setup c
unfolding start first_world
stored_is_first setup d c s = first_configs setup d c s

has_initial : (setup : Deployment) → IsDeployment setup → (c : Membership) → IsStored (start setup) c → HasInitial (start setup) c
has_initial setup d c s = let f : IsFirstConfig setup c = stored_is_first setup d c s in ([], record { stored = s; begun = inl (f.epoch, refl) })

-- the leader of a first configuration reached epoch 1
leads_at_start : (setup : Deployment) (name shard : ℕ) (c : Membership) → view_of setup.configs shard ≡ Some c → c.leader ≡ name → (first_node setup.configs name shard).state ≡ 1
unfolding first_node
leads_at_start setup name shard c h e =
    subst (λ v. (first_node_as setup.configs name shard (first_role name v)).state ≡ 1) (sym h)
    (subst (λ b. (first_node_as setup.configs name shard (cond b (Leader c) (cond (is_among c.members name) (Follower c) Fenced))).state ≡ 1) (sym (eq-eqb c.leader name e)) refl)

-- a node of a shard stands among the first ones
node_there : (setup : Deployment) (name shard : ℕ) → is_node_of setup.nodes shard name ≡ true → IsNode (start setup) (first_node setup.configs name shard)
unfolding start first_world
node_there setup name shard h =
    let has : has_node setup.nodes name ≡ true = left_of (has_node setup.nodes name) (slice_index setup.nodes (name - 1) == shard) h in
    let low : 1 ≤ name = leb-true 1 name (left_of (nat_le 1 name) (nat_le name (length setup.nodes)) has) in
    let high : name ≤ length setup.nodes = leb-true name (length setup.nodes) (right_of (nat_le 1 name) (nat_le name (length setup.nodes)) has) in
    let of : slice_index setup.nodes (name - 1) ≡ shard = eqb-true (slice_index setup.nodes (name - 1)) shard (right_of (has_node setup.nodes name) (slice_index setup.nodes (name - 1) == shard) h) in
    let there : StandsIn (first_node setup.configs (1 + (name - 1)) (slice_index setup.nodes (name - 1))) (first_nodes setup.configs 1 setup.nodes) = first_nodes-at setup.configs 1 setup.nodes (name - 1) (omega (arith, low, high)) in
    let e : 1 + (name - 1) ≡ name = omega (arith, low) in
    subst (λ s. StandsIn (first_node setup.configs name s) (first_nodes setup.configs 1 setup.nodes)) of
    (subst (λ m. StandsIn (first_node setup.configs m (slice_index setup.nodes (name - 1))) (first_nodes setup.configs 1 setup.nodes)) e there)

first_name : (setup : Deployment) (name shard : ℕ) → (first_node setup.configs name shard).name ≡ name
unfolding first_node
first_name setup name shard = refl

leader_is_there : (setup : Deployment) → IsDeployment setup → (c : Membership) → IsStored (start setup) c → Reached (start setup) c.epoch c.leader
unfolding start first_world
leader_is_there setup d c s =
    let f : IsFirstConfig setup c = first_configs setup d c s in
    let member : StandsIn c.leader c.members = among-StandsIn c.members c.leader f.leader in
    let node : NodeRecord = first_node setup.configs c.leader c.shard in
    let there : StandsIn node (first_nodes setup.configs 1 setup.nodes) = node_there setup c.leader c.shard (all-StandsIn (is_node_of setup.nodes c.shard) c.members c.leader f.nodes member) in
    let view : view_of setup.configs c.shard ≡ Some c = view_of-first setup.configs 1 setup.shards c d.one_each s in
    record {
      node = node;
      was = record { moment = first_world setup; past = inl refl; there = there; named = first_name setup c.leader c.shard; in_epoch = leads_at_start setup c.leader c.shard c view refl ∙ sym f.epoch };
      some = let e : c.epoch ≡ 1 = f.epoch in omega (arith, e);
    }

-- a configuration that a node has as it begins is stored
stored_in_node : (setup : Deployment) (node : NodeRecord) (c : Membership) → IsFresh setup node → StandsIn c (configs_of node) → IsStored (start setup) c
unfolding start first_world
stored_in_node setup node c f s = elim (StandsIn-append (node.coordinator.views ++ role_configs node.role ++ probed_configs node.prober) (gathered_configs node.gathering) c s) [
  | inr g ↦ absurd (subst (λ o. StandsIn c (gathered_configs o)) f.gathering g)
  | inl r ↦ elim (StandsIn-append (node.coordinator.views ++ role_configs node.role) (probed_configs node.prober) c r) [
    | inr p ↦ absurd (subst (λ o. StandsIn c (probed_configs o)) f.prober p)
    | inl q ↦ elim (StandsIn-append node.coordinator.views (role_configs node.role) c q) [
      | inl v ↦ subst (λ vs. StandsIn c vs) f.views v
      | inr o ↦ f.started.configs c o
    ]
  ]
]

configurations_start : (setup : Deployment) → IsDeployment setup → ConfigurationsHold setup (start setup)
unfolding start first_world
configurations_start setup d = record {
  names = first_nodes-names setup.configs 1 setup.nodes;
  shards = first_nodes-shards setup.configs 1 setup.nodes;
  views = λ node s. ap (λ vs. map (λ v. v.shard) vs) (node-IsFresh setup d node s).views ∙ d.one_each;
  epochs = λ shard. epochs_fit setup.configs 1 setup.shards shard d.one_each (λ c s. (first_configs setup d c s).epoch);
  in_nodes = λ node c n s. stored_in_node setup node c (node-IsFresh setup d node n) s;
  in_messages = λ from to m c s e. absurd s.sent;
  members = λ c s. let f : IsFirstConfig setup c = first_configs setup d c s in record { nodes = f.nodes; leader = f.leader };
  proposed = λ from to c s. absurd s.sent;
  wanted = λ node n. subst (λ p. WantsNodes setup p) (sym (node-IsFresh setup d node n).prober) tt;
}

-- a node that reached an epoch is in it
reached_is_state : (setup : Deployment) (node : NodeRecord) (epoch : ℕ) → IsNode (start setup) node → Reached (start setup) epoch node.name → epoch ≤ node.state
unfolding start first_world
reached_is_state setup node epoch n r =
    let same : r.node ≡ node = first_nodes-name setup.configs 1 setup.nodes r.node node (was_now setup epoch node.name r.node r.was) n r.was.named in
    let e : node.state ≡ epoch = ap (λ m. m.state) (sym same) ∙ r.was.in_epoch in
    omega (arith, e)

promises_start : (setup : Deployment) → IsDeployment setup → PromisesHold (start setup)
unfolding start
promises_start setup d = record {
  roles = λ node n. (node-IsFresh setup d node n).started.fits;
  members = λ node n h. (node-IsFresh setup d node n).started.member h;
  reached = λ node epoch n r. reached_is_state setup node epoch n r;
  held = λ node x n h. absurd (nothing_held setup d node.state node.name x h);
  rows = λ node n. subst (λ rows. AreRows rows) (sym (node-IsFresh setup d node n).rows) (record { slots_ascend = refl; slots = refl; txns_differ = refl });
  rows_before = λ w node s. absurd s;
  gathered = λ node g n e. absurd (cc (e, (node-IsFresh setup d node n).gathering));
}

answers_start : (setup : Deployment) → AnswersHold (start setup)
unfolding start first_world
answers_start setup = record { each = λ from to epoch state s. absurd s.sent }

choice_start : (setup : Deployment) → IsDeployment setup → ChoiceHolds (start setup)
unfolding start first_world
choice_start setup d = record {
  stages = λ node n. subst (λ p. StageHolds (start setup) p) (sym (node-IsFresh setup d node n).prober) tt;
  stored = λ c s l. absurd (let e : c.epoch ≡ 1 = (first_configs setup d c s).epoch in omega (arith, e, l));
  proposed = λ from to c s. absurd s.sent;
}

transfer_start : (setup : Deployment) → IsDeployment setup → TransferHolds (start setup)
unfolding start first_world
transfer_start setup d = record {
  handed_on = λ c earlier entries i s h l. absurd (let p : c.epoch ≡ 1 = (first_configs setup d c i.stored).epoch in let q : earlier.epoch ≡ 1 = (first_configs setup d earlier s).epoch in omega (arith, p, q, l));
  once = λ c xs ys i j. initial_is_none setup c xs i ∙ sym (initial_is_none setup c ys j);
  whole = λ from to c rows s. absurd s.sent;
  pieces = λ from to number pieces c rows s. absurd s.sent;
  kept = λ node g piece n e s. absurd (cc (e, (node-IsFresh setup d node n).gathering));
  in_order = λ node g n e. absurd (cc (e, (node-IsFresh setup d node n).gathering));
  at_least = λ c name entries x i m r s. absurd (subst (λ xs. StandsIn x xs) (initial_is_none setup c entries i) s);
  at_most = λ c name x s m h. absurd (nothing_held setup d c.epoch name x h);
  led = λ c s r. has_initial setup d c s;
  leader_reached = λ c i. leader_is_there setup d c i.1.stored;
  reached_has_initial = λ c name s m r. has_initial setup d c s;
}

nothing_listed : (setup : Deployment) → IsDeployment setup → (c : Membership) (x : Preparation) → Listed (start setup) c x → ⊥
nothing_listed setup d c x l = nothing_held setup d c.epoch c.leader x l.held

entries_start : (tests : Tests) (setup : Deployment) → IsDeployment setup → EntriesHold tests (start setup)
unfolding start first_world
entries_start tests setup d = record {
  slots = λ c x y l. absurd (nothing_listed setup d c x l);
  txns = λ c x y l. absurd (nothing_listed setup d c x l);
  appended = λ c x l. absurd (nothing_listed setup d c x l);
  answered = λ from to shard epoch x s. absurd s.sent;
  accepting = λ from epoch node x n s. absurd s.sent;
  acknowledged = λ from to shard epoch slot txn s. absurd s.sent;
  cases = λ node txn case n s. absurd (subst (λ cs. StandsIn (txn, case) cs) (node-IsFresh setup d node n).cases s);
  one_case = λ node n. subst (λ cs. IsTrue (txns_differ (map (λ e. e.0) cs))) (sym (node-IsFresh setup d node n).cases) refl;
}

transactions_start : (setup : Deployment) → IsDeployment setup → TransactionsHold setup (start setup)
unfolding start first_world
transactions_start setup d = record {
  numbers = λ txn payload node b. absurd b;
  rows = λ node r n s. absurd (subst (λ rows. StandsIn r rows) (node-IsFresh setup d node n).rows s);
  messages = λ from node m n s. absurd s.sent;
  cases = λ node txn case n s. absurd (subst (λ cs. StandsIn (txn, case) cs) (node-IsFresh setup d node n).cases s);
}

decisions_start : (setup : Deployment) → IsDeployment setup → DecisionsHold setup (start setup)
unfolding start first_world
decisions_start setup d = record {
  decided = λ txn decision b. absurd b;
  told = λ from epoch slot txn commit node n s. absurd s.sent;
  rows = λ node r n s. absurd (subst (λ rows. StandsIn r rows) (node-IsFresh setup d node n).rows s);
  state = λ from to c rows r s. absurd s.sent;
  pieces = λ from to number pieces c rows r s. absurd s.sent;
  outcomes = λ from to txn decision s. absurd s.sent;
  kept = λ node txn decision n s. absurd (subst (λ os. StandsIn (txn, decision) os) (node-IsFresh setup d node n).outcomes s);
}

no_notes : (n : Note) (earlier later : List Note) → [] ≡ earlier ++ (n ∷ later) → ⊥
no_notes n [] later h = cc h
no_notes n (m ∷ earlier) later h = cc h

readings_start : (setup : Deployment) → ReadingsHold (start setup)
unfolding start first_world
readings_start setup = record { each = λ earlier later name version value h. absurd (no_notes (ReadValue name version value) earlier later h) }

-- all of it, at the first moment of any run
pub start-InvariantHolds : (tests : Tests) (setup : Deployment) → IsDeployment setup → InvariantHolds tests setup (time_after tests setup [])
unfolding time_after start
start-InvariantHolds tests setup d = record {
  configurations = configurations_start setup d;
  promises = promises_start setup d;
  answers = answers_start setup;
  choice = choice_start setup d;
  transfer = transfer_start setup d;
  entries = entries_start tests setup d;
  transactions = transactions_start setup d;
  decisions = decisions_start setup d;
  readings = readings_start setup;
}
