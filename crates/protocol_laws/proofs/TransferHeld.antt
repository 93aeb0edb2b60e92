-- How a member of a configuration comes to hold an entry there: it enters, it leads and appends, or it accepts a listed one.
use Rattle.std.proofs.Common.{◌≡◌, ℕ, ◌≤◌, true, List, [], ◌∷◌, ◌++◌, Option, None, ◌⊎◌, inl, inr, sym, ◌∙◌, ap, ap₂, subst, refl, arith}
use Rattle.tcs_terms.specs.declared.ids.TxId.{TxId}
use Rattle.tcs_terms.specs.declared.inputs.Event.{Event}
use Rattle.tcs_terms.specs.declared.inputs.Input.{Input}
use Rattle.tcs_terms.specs.declared.inputs.Input.TheVariants.{Deliver}
use Rattle.tcs_terms.specs.declared.messages.Message.TheVariants.{Accept}
use Rattle.tcs_terms.specs.Payloads.{Accesses}
use Rattle.tcs_terms.specs.Places.{Membership}
use Rattle.tcs_terms.specs.Preparations.{Preparation}
use Rattle.tcs_terms.specs.Setups.{Deployment}
use Rattle.tcs_laws.specs.Certification.{Tests}
use Rattle.protocol.specs.Invariant.Configurations.{ConfigurationsHold, role_configs}
use Rattle.protocol.specs.Invariant.Entries.{ListedAt}
use Rattle.protocol.specs.Invariant.Logs.{entries_of, Held, Listed}
use Rattle.protocol.specs.Invariant.Promises.{PromisesHold, FitsRole, IsOf}
use Rattle.protocol.specs.Invariant.Time.{Moment, goes_to, StandsIn, IsNode, IsStored, WasSent}
use Rattle.protocol.specs.Log.{row_of, new_entry, mark_of, undecided}
use Rattle.protocol.specs.Outcomes.{Out}
use Rattle.protocol.specs.Records.{Role, NodeRecord}
use Rattle.protocol.specs.Records.Role.{Fenced, Leader, Follower}
use Rattle.protocol.specs.ShardRules.{is_leader, least}
use Rattle.protocol.specs.World.{Happening}
use Rattle.protocol_laws.specs.Effect.{Effect, MayFollow}
use Rattle.protocol_laws.specs.Effect.Effect.{Rests, Appends, Accepts, Marks, Follows, FollowsPieces}
use Rattle.protocol_laws.specs.Turn.{Turn, Onward}
use Rattle.protocol_laws.proofs.ConfigurationsInputs.{delivered}
use Rattle.protocol_laws.proofs.EntriesKept.{entries_of-marked}
use Rattle.protocol_laws.proofs.Lasting.{HoldsNow, held-back, is_in-now}
use Rattle.protocol_laws.proofs.Stored.{one_config, stored-some, member_shard}
use Rattle.protocol_laws.proofs.Came.{node_back, IsOfActing, effect_name, effect_shard}
use Rattle.protocol_laws.proofs.TransferEnters.{enters, EntersAs}
use Rattle.protocol_laws.proofs.TransferReached.{Enters, entered}
use Rattle.protocol_laws.proofs.ConfigurationsHad.{had}
use Rattle.protocol_laws.proofs.LogRows.{joined-entries, accepted-StandsIn}

-- a node takes an entry that it is sent to accept
record TakesEntry (node : NodeRecord) (input : Input) (x : Preparation) : Type 0 where
  from : ℕ
  delivers : input ≡ Deliver from (Accept node.state x)

-- a leader appends an entry of a new transaction
record AppendsEntry (tests : Tests) (node : NodeRecord) (new : NodeRecord) (x : Preparation) : Type 0 where
  txn : TxId
  shards : List ℕ
  part : Option Accesses
  leads : is_leader node.role ≡ true
  none : row_of node.rows txn ≡ None
  entry : x ≡ new_entry tests node.rows txn shards part
  is : new ≡ record node { rows = node.rows ++ undecided x ∷ [] }

not_least : (node : NodeRecord) (config : Membership) → MayFollow node config → config.epoch ≡ node.state → ⊥
not_least node config may e = let low : least node ≤ config.epoch = may.epoch in omega (arith, low, e)

-- the entries of a node that stays in its state epoch
entries_by : (tests : Tests) (version : ℕ) (node : NodeRecord) (input : Input) (out : Out NodeRecord) → Effect tests version node input out → out.kept.state ≡ node.state → (x : Preparation) → StandsIn x (entries_of out.kept.rows)
    → StandsIn x (entries_of node.rows) ⊎ AppendsEntry tests node out.kept x ⊎ TakesEntry node input x
entries_by tests version node input out (Appends from epoch txn shards part leads at among none full entry e) still x s = elim (joined-entries node.rows (undecided entry ∷ []) x s) [
  | inl k ↦ inl k
  | inr (inl k) ↦ inr (inl (record { txn = txn; shards = shards; part = part; leads = leads; none = none; entry = k ∙ e; is = ap (λ (y : Preparation). record node { rows = node.rows ++ undecided y ∷ [] }) (sym k) }))
  | inr (inr k) ↦ absurd k
]
entries_by tests version node input out (Accepts from epoch entry follows at taken) still x s = elim (accepted-StandsIn node.rows entry x s) [
  | inl k ↦ inl k
  | inr e ↦ inr (inr (record { from = from; delivers = ap₂ (λ (n : ℕ) (y : Preparation). Deliver from (Accept n y)) (sym at) (sym e) }))
]
entries_by tests version node input out (Marks from epoch slot txn commit l has) still x s = inl (subst (λ xs. StandsIn x xs) (entries_of-marked node.rows slot (mark_of commit)) s)
entries_by tests version node input out (Follows from config rows v may) still x s = absurd (not_least node config may still)
entries_by tests version node input out (FollowsPieces from config number pieces rows new v may takes e whole) still x s = absurd (not_least node config may still)
entries_by tests version node input out (Rests i answer notices n) still x s = inl s
entries_by tests version node input out _ still x s = inl s

-- the leader of a configuration appends an entry of a new transaction
pub record Appending (tests : Tests) (t u : Moment) (c : Membership) (x : Preparation) : Type 0 where
  pub node : NodeRecord
  pub is : IsNode t node
  pub leads : node.role ≡ Leader c
  pub of : IsOf node c
  pub leader : c.leader ≡ node.name
  pub stored : IsStored t c
  pub some : 1 ≤ c.epoch
  pub txn : TxId
  pub shards : List ℕ
  pub part : Option Accesses
  pub none : row_of node.rows txn ≡ None
  pub entry : x ≡ new_entry tests node.rows txn shards part
  pub there : IsNode u (record node { rows = node.rows ++ undecided x ∷ [] })

-- how a member comes to hold an entry
pub data Gains (tests : Tests) (t u : Moment) (c : Membership) (name : ℕ) (x : Preparation) : Type 0 where
  EntersWith : (e : Enters t u c name) → StandsIn x (entries_of e.new.rows) → Gains tests t u c name x
  AppendsIt : Appending tests t u c x → c.leader ≡ name → Gains tests t u c name x
  AcceptsIt : Listed t c x → Gains tests t u c name x

-- a leader of a shard and epoch leads the configuration of that shard and epoch
pub leads_it : (setup : Deployment) (t : Moment) → ConfigurationsHold setup t → (node : NodeRecord) → IsNode t node → PromisesHold t → is_leader node.role ≡ true → (c : Membership) × (node.role ≡ Leader c) × IsStored t c × IsOf node c × (c.leader ≡ node.name)
leads_it setup t ct node n pt l = go node.role refl l
  where
    go : (role : Role) → node.role ≡ role → is_leader role ≡ true → (c : Membership) × (node.role ≡ Leader c) × IsStored t c × IsOf node c × (c.leader ≡ node.name)
    go Fenced e k = absurd (cc k)
    go (Follower c) e k = absurd (cc k)
    go (Leader c) e k =
        let f : FitsRole node (Leader c) = subst (λ (r : Role). FitsRole node r) e (pt.roles node n) in
        let among : StandsIn c (role_configs node.role) = subst (λ (r : Role). StandsIn c (role_configs r)) (sym e) (inl refl) in (
          c,
          e,
          ct.in_nodes node c n ((had node c).role among),
          f.0,
          f.1,
        )

-- a member of a configuration that holds an entry there held it before, or comes to hold it
pub held_how : (tests : Tests) (setup : Deployment) (t : Moment) (event : Event) (h : Happening) → Turn tests setup t event h → ConfigurationsHold setup (goes_to t h.after) → Onward t (goes_to t h.after) → (c : Membership) (name : ℕ) (x : Preparation) → IsStored (goes_to t h.after) c → StandsIn name c.members → Held (goes_to t h.after) c.epoch name x
    → Held t c.epoch name x ⊎ Gains tests t (goes_to t h.after) c name x
held_how tests setup t event h turn cu onward c name x s m held = elim (held-back t (goes_to t h.after) c.epoch name x onward held) [
  | inl k ↦ inl k
  | inr i ↦ is_in i (node_back tests setup t event h turn i.node i.is)
]
  where
    old_name : (i : HoldsNow (goes_to t h.after) c.epoch name x) (o : IsOfActing tests setup t event h i.node) → o.acting.node.name ≡ name
    old_name i o = sym (effect_name tests setup.version o.acting.node o.acting.input o.acting.out o.acting.effect) ∙ (sym (ap (λ (n : NodeRecord). n.name) o.is) ∙ i.named)

    old_shard : (i : HoldsNow (goes_to t h.after) c.epoch name x) (o : IsOfActing tests setup t event h i.node) → o.acting.node.shard ≡ c.shard
    old_shard i o = sym (effect_shard tests setup.version o.acting.node o.acting.input o.acting.out o.acting.effect) ∙ (sym (ap (λ (n : NodeRecord). n.shard) o.is) ∙ member_shard setup (goes_to t h.after) cu c i.node s i.is (subst (λ k. StandsIn k c.members) (sym i.named) m))

    same : (d : Membership) → IsStored t d → d.shard ≡ c.shard → d.epoch ≡ c.epoch → d ≡ c
    same d k e f = one_config setup (goes_to t h.after) d c cu (onward.stored d k) s e f

    appending : (i : HoldsNow (goes_to t h.after) c.epoch name x) (o : IsOfActing tests setup t event h i.node) (a : AppendsEntry tests o.acting.node o.acting.out.kept x) (d : Membership) → d ≡ c → o.acting.node.role ≡ Leader d → IsStored t d → IsOf o.acting.node d → d.leader ≡ o.acting.node.name
        → Gains tests t (goes_to t h.after) c name x
    appending i o a d is role stored of leader = AppendsIt (subst (λ (y : Membership). Appending tests t (goes_to t h.after) y x) is (record {
      node = o.acting.node;
      is = o.acting.is;
      leads = role;
      of = of;
      leader = leader;
      stored = stored;
      some = stored-some setup t d turn.before.configurations stored;
      txn = a.txn;
      shards = a.shards;
      part = a.part;
      none = a.none;
      entry = a.entry;
      there = subst (λ (n : NodeRecord). IsNode (goes_to t h.after) n) a.is o.acting.there;
    })) (sym (ap (λ (y : Membership). y.leader) is) ∙ (leader ∙ old_name i o))

    stays : (i : HoldsNow (goes_to t h.after) c.epoch name x) (o : IsOfActing tests setup t event h i.node) → o.acting.node.state ≡ c.epoch → StandsIn x (entries_of o.acting.node.rows) ⊎ AppendsEntry tests o.acting.node o.acting.out.kept x ⊎ TakesEntry o.acting.node o.acting.input x → Held t c.epoch name x ⊎ Gains tests t (goes_to t h.after) c name x
    stays i o e (inl k) = inl (record { node = o.acting.node; was = is_in-now t c.epoch name o.acting.node o.acting.is (old_name i o) e; some = held.some; holds = k })
    stays i o e (inr (inl a)) =
        let d = leads_it setup t turn.before.configurations o.acting.node o.acting.is turn.before.promises a.leads in
        let is : d.0 ≡ c = same d.0 d.2 (d.3.shard ∙ old_shard i o) (d.3.epoch ∙ e) in
        inr (appending i o a d.0 is d.1 d.2 d.3 d.4)
    stays i o e (inr (inr a)) =
        let sent : WasSent t a.from o.acting.node.name (Accept o.acting.node.state x) = delivered setup t o.acting.node.name event o.acting.input o.acting.comes turn.fits a.from (Accept o.acting.node.state x) a.delivers in
        let l : ListedAt t o.acting.node.shard o.acting.node.state x = turn.before.entries.accepting a.from o.acting.node.state o.acting.node x o.acting.is sent in
        inr (AcceptsIt (subst (λ (y : Membership). Listed t y x) (same l.config l.stored (l.of_shard ∙ old_shard i o) (l.of_epoch ∙ e)) l.listed))

    acted : (i : HoldsNow (goes_to t h.after) c.epoch name x) (o : IsOfActing tests setup t event h i.node) → (o.acting.out.kept.state ≡ o.acting.node.state) ⊎ EntersAs t (goes_to t h.after) o.acting.out.kept → Held t c.epoch name x ⊎ Gains tests t (goes_to t h.after) c name x
    acted i o (inl e) =
        stays i o (sym e ∙ (sym (ap (λ (n : NodeRecord). n.state) o.is) ∙ i.in_epoch))
        (entries_by tests setup.version o.acting.node o.acting.input o.acting.out o.acting.effect e x (subst (λ (n : NodeRecord). StandsIn x (entries_of n.rows)) o.is i.holds))
    acted i o (inr f) =
        inr (EntersWith (entered setup t (goes_to t h.after) c name onward cu (record { node = i.node; is = i.is; named = i.named; in_epoch = i.in_epoch }) s m
        (subst (λ (n : NodeRecord). EntersAs t (goes_to t h.after) n) (sym o.is) f)) i.holds)

    is_in : (i : HoldsNow (goes_to t h.after) c.epoch name x) → IsNode t i.node ⊎ IsOfActing tests setup t event h i.node → Held t c.epoch name x ⊎ Gains tests t (goes_to t h.after) c name x
    is_in i (inl n) = inl (record { node = i.node; was = is_in-now t c.epoch name i.node n i.named i.in_epoch; some = held.some; holds = i.holds })
    is_in i (inr o) = acted i o (enters tests setup t event h turn o.acting)
