-- When the initial entries of a configuration come to be defined: as its leader becomes its leader, once.
use Rattle.std.proofs.Common.{◌≡◌, ◌<◌, ◌≤◌, ◌==◌, List, [], ◌∷◌, ◌++◌, filter, Some, None, ◌⊎◌, inl, inr, sym, ◌∙◌, ap, subst, refl, arith}
use Rattle.tcs_terms.specs.declared.inputs.Event.{Event}
use Rattle.tcs_terms.specs.declared.logs.Row.{Row}
use Rattle.tcs_terms.specs.Places.{Membership}
use Rattle.tcs_terms.specs.Preparations.{Preparation}
use Rattle.tcs_terms.specs.Setups.{Deployment}
use Rattle.tcs_laws.specs.Certification.{Tests}
use Rattle.protocol.specs.Invariant.Configurations.{ConfigurationsHold}
use Rattle.protocol.specs.Invariant.Logs.{entries_of, Reached, BecameLeader, Initial, HasInitial}
use Rattle.protocol.specs.Invariant.Time.{Moment, worlds, goes_to, StandsIn, IsNode, IsStored}
use Rattle.protocol.specs.Records.{NodeRecord}
use Rattle.protocol.specs.Records.Role.{Leader, Follower}
use Rattle.protocol.specs.World.{World, Happening}
use Rattle.protocol_laws.specs.Turn.{Turn, Onward}
use Rattle.protocol_laws.proofs.Lasting.{one_node}
use Rattle.protocol_laws.proofs.Standing.{StandsIn-right, filter-StandsIn, last_or-StandsIn}
use Rattle.protocol_laws.proofs.Stored.{stored-some, leads_member}
use Rattle.protocol_laws.proofs.Came.{node_back, config_back, IsNext, IsOfActing, effect_name}
use Rattle.protocol_laws.proofs.TransferEnters.{enters, EntersAs, LeadsAs, Leading, Following}
use Rattle.protocol_laws.proofs.TransferReached.{stored_then}

-- the initial entries of a configuration whose leader becomes its leader now
pub record LeadsWith (t u : Moment) (c : Membership) (entries : List Preparation) : Type 0 where
  pub leading : Leading t u c
  pub is : entries ≡ entries_of leading.node.rows

-- the first configurations are stored from the beginning
first_then : (tests : Tests) (setup : Deployment) (t : Moment) (event : Event) (h : Happening) → Turn tests setup t event h → (c : Membership) → IsStored (goes_to t h.after) c → c.epoch ≡ 1 → IsStored t c
first_then tests setup t event h turn c s e = elim (config_back tests setup t event h turn c s) [
  | inl k ↦ k
  | inr next ↦ absurd (not_next next)
]
  where
    not_next : IsNext t c → ⊥
    not_next next =
        let among : (None ≡ Some next.last) ⊎ StandsIn next.last (filter (λ (d : Membership). d.shard == c.shard) t.now.configs) = last_or-StandsIn None (filter (λ (d : Membership). d.shard == c.shard) t.now.configs) next.last next.is_last in
        elim among [
          | inl n ↦ cc n
          | inr m ↦ (let one : 1 ≤ next.last.epoch = stored-some setup t next.last turn.before.configurations (filter-StandsIn (λ (d : Membership). d.shard == c.shard) t.now.configs next.last m).0 in omega (arith, one, e, next.epoch))
        ]

-- what stands after a moment that is split
after_there : (ws later : List World) (after : World) (rest : List World) → ws ≡ later ++ (after ∷ rest) → StandsIn after ws
after_there ws later after rest e = subst (λ xs. StandsIn after xs) (sym e) (StandsIn-right later (after ∷ rest) after (inl refl))

-- who became leader of a configuration reached it
became_reached : (t : Moment) (c : Membership) (rows : List Row) → 1 ≤ c.epoch → BecameLeader t c rows → Reached t c.epoch c.leader
became_reached t c rows one b = record {
  node = b.node;
  was = record { moment = b.after; past = after_there (worlds t) b.later b.after (b.before ∷ b.earlier) b.moments; there = b.new_node; named = b.new_name; in_epoch = b.state };
  some = one;
}

same_leader : (a b : Membership) → Leader a ≡ Leader b → a ≡ b
same_leader a b e = cc e

not_following : (a b : Membership) → Leader a ≡ Follower b → ⊥
not_following a b e = cc e

-- initial entries were defined before, or the leader becomes leader now
pub initial_back : (tests : Tests) (setup : Deployment) (t : Moment) (event : Event) (h : Happening) → Turn tests setup t event h → ConfigurationsHold setup (goes_to t h.after) → Onward t (goes_to t h.after) → (c : Membership) (entries : List Preparation) → Initial (goes_to t h.after) c entries
    → Initial t c entries ⊎ LeadsWith t (goes_to t h.after) c entries
initial_back tests setup t event h turn cu onward c entries i = begun i.begun
  where
    one : 1 ≤ c.epoch
    one = stored-some setup (goes_to t h.after) c cu i.stored

    with_it : (d : Membership) → d ≡ c → (l : Leading t (goes_to t h.after) d) → entries ≡ entries_of l.node.rows → LeadsWith t (goes_to t h.after) c entries
    with_it d e l x = subst (λ (d : Membership). LeadsWith t (goes_to t h.after) d entries) e (record { leading = l; is = x })

    -- the node that became leader, as it was
    now : (rows : List Row) (after before : World) (earlier : List World) → h.after ∷ t.now ∷ t.before ≡ after ∷ before ∷ earlier → (old node : NodeRecord) → StandsIn old before.nodes → old.name ≡ c.leader → old.state < c.epoch
        → StandsIn node after.nodes → node.name ≡ c.leader → node.role ≡ Leader c → node.state ≡ c.epoch → node.rows ≡ rows → entries ≡ entries_of rows → LeadsWith t (goes_to t h.after) c entries
    now rows after before earlier e0 old node os on ol ns nn nr ne nw x =
        let ea : after ≡ h.after = cc e0 in
        let eb : before ≡ t.now = cc e0 in
        let was : IsNode t old = subst (λ (w : World). StandsIn old w.nodes) eb os in
        let is : IsNode (goes_to t h.after) node = subst (λ (w : World). StandsIn node w.nodes) ea ns in
        elim (node_back tests setup t event h turn node is) [
          | inl k ↦ absurd (let same : node ≡ old = one_node setup t node old turn.before.configurations k was (nn ∙ sym on) in let q : old.state ≡ c.epoch = ap (λ (n : NodeRecord). n.state) (sym same) ∙ ne in omega (arith, q, ol))
          | inr o ↦ acted o (enters tests setup t event h turn o.acting)
        ]
      where
        acted : (o : IsOfActing tests setup t event h node) → (o.acting.out.kept.state ≡ o.acting.node.state) ⊎ EntersAs t (goes_to t h.after) o.acting.out.kept → LeadsWith t (goes_to t h.after) c entries
        acted o (inl e) = absurd (
            let named : o.acting.node.name ≡ old.name = sym (effect_name tests setup.version o.acting.node o.acting.input o.acting.out o.acting.effect) ∙ (sym (ap (λ (x : NodeRecord). x.name) o.is) ∙ (nn ∙ sym on)) in
            let same : o.acting.node ≡ old = one_node setup t o.acting.node old turn.before.configurations o.acting.is (subst (λ (w : World). StandsIn old w.nodes) (let eb : before ≡ t.now = cc e0 in eb) os) named in
            let q : old.state ≡ c.epoch = ap (λ (n : NodeRecord). n.state) (sym same) ∙ (sym e ∙ (sym (ap (λ (x : NodeRecord). x.state) o.is) ∙ ne)) in
            omega (arith, q, ol))
        acted o (inr f) = how f.how
          where
            how : LeadsAs t (goes_to t h.after) f.config o.acting.out.kept ⊎ Following t (goes_to t h.after) f.config o.acting.out.kept → LeadsWith t (goes_to t h.after) c entries
            how (inl l) =
                let is : f.config ≡ c = same_leader f.config c (sym (ap (λ (x : NodeRecord). x.role) (o.is ∙ l.is)) ∙ nr) in
                with_it f.config is l.leading (x ∙ ap entries_of (sym nw ∙ ap (λ (x : NodeRecord). x.rows) (o.is ∙ l.is)))
            how (inr l) = absurd (not_following c f.config (sym nr ∙ (ap (λ (x : NodeRecord). x.role) o.is ∙ l.role)))

    past : (rows : List Row) (b : BecameLeader (goes_to t h.after) c rows) → entries ≡ entries_of rows → (later : List World) → b.later ≡ later → Initial t c entries ⊎ LeadsWith t (goes_to t h.after) c entries
    past rows b x [] e = inr (now rows b.after b.before b.earlier (b.moments ∙ ap (λ ws. ws ++ (b.after ∷ b.before ∷ b.earlier)) e) b.old b.node b.old_node b.old_name b.old_state b.new_node b.new_name b.leads b.state b.rows_then x)
    past rows b x (w ∷ ws) e =
        let moments : worlds t ≡ ws ++ (b.after ∷ b.before ∷ b.earlier) = cc (b.moments, e) in
        let became : BecameLeader t c rows = record { later = ws; after = b.after; before = b.before; earlier = b.earlier; moments = moments; old = b.old; old_node = b.old_node; old_name = b.old_name; old_state = b.old_state; node = b.node; new_node = b.new_node; new_name = b.new_name; leads = b.leads; state = b.state; rows_then = b.rows_then } in
        inl (record { stored = stored_then tests setup t event h turn cu onward c c.leader i.stored (leads_member setup (goes_to t h.after) cu c i.stored) (became_reached t c rows one became); begun = inr (rows, became, x) })

    begun : ((c.epoch ≡ 1) × (entries ≡ [])) ⊎ ((rows : List Row) × BecameLeader (goes_to t h.after) c rows × (entries ≡ entries_of rows)) → Initial t c entries ⊎ LeadsWith t (goes_to t h.after) c entries
    begun (inl p) = inl (record { stored = first_then tests setup t event h turn c i.stored p.0; begun = inl p })
    begun (inr b) = past b.0 b.1 b.2 b.1.later refl

-- they are not defined before
pub no_initial : (tests : Tests) (setup : Deployment) (t : Moment) (event : Event) (h : Happening) → Turn tests setup t event h → (c : Membership) → Leading t (goes_to t h.after) c → HasInitial t c → ⊥
no_initial tests setup t event h turn c l i =
    let r : Reached t c.epoch c.leader = turn.before.transfer.leader_reached c i in
    let low : c.epoch ≤ l.node.state = turn.before.promises.reached l.node c.epoch l.is (subst (λ n. Reached t c.epoch n) l.leader r) in
    omega (arith, low, l.below)

-- and are defined now
pub initial_now : (t : Moment) (w : World) (c : Membership) → Onward t (goes_to t w) → (l : Leading t (goes_to t w) c) → Initial (goes_to t w) c (entries_of l.node.rows)
initial_now t w c onward l = record {
  stored = onward.stored c l.stored;
  begun = inr (
    l.node.rows,
    record {
      later = [];
      after = w;
      before = t.now;
      earlier = t.before;
      moments = refl;
      old = l.node;
      old_node = l.is;
      old_name = sym l.leader;
      old_state = l.below;
      node = record l.node { role = Leader c; state = c.epoch };
      new_node = l.there;
      new_name = sym l.leader;
      leads = refl;
      state = refl;
      rows_then = refl;
    },
    refl,
  );
}
