-- How an entry comes into a list: with the rows of a new leader, or as its leader appends it; no slot or transaction
-- stands there twice.
use Rattle.std.proofs.Common.{◌≡◌, ℕ, ◌≤◌, ◌<◌, [], ◌∷◌, ◌++◌, ◌⊎◌, inl, inr, sym, ◌∙◌, ap, subst, refl, eq-or-lt_of_le}
use Rattle.tcs_terms.specs.declared.inputs.Event.{Event}
use Rattle.tcs_terms.specs.Places.{Membership}
use Rattle.tcs_terms.specs.Preparations.{Preparation}
use Rattle.tcs_terms.specs.Setups.{Deployment}
use Rattle.tcs_laws.specs.Certification.{Tests}
use Rattle.protocol.specs.Invariant.Choice.{IsChosen}
use Rattle.protocol.specs.Invariant.Configurations.{ConfigurationsHold}
use Rattle.protocol.specs.Invariant.Logs.{entries_of, Held, Initial, HasInitial, Listed}
use Rattle.protocol.specs.Invariant.Promises.{PromisesHold, IsMemberAt}
use Rattle.protocol.specs.Invariant.Time.{Moment, goes_to, StandsIn, IsNode}
use Rattle.protocol.specs.Log.{undecided}
use Rattle.protocol.specs.Records.{NodeRecord}
use Rattle.protocol.specs.Records.Role.{Leader}
use Rattle.protocol.specs.World.{Happening}
use Rattle.protocol_laws.specs.Turn.{Turn, Onward}
use Rattle.protocol_laws.proofs.Lasting.{is_in-now}
use Rattle.protocol_laws.proofs.LogRows.{rows-slot, rows-txn}
use Rattle.protocol_laws.proofs.Stored.{stored-some, leads_member}
use Rattle.protocol_laws.proofs.TransferEnters.{LeadsAs, Leading, Following}
use Rattle.protocol_laws.proofs.TransferHandedOn.{leader_state}
use Rattle.protocol_laws.proofs.TransferHeld.{Appending, Gains, held_how}
use Rattle.protocol_laws.proofs.TransferHeld.Gains.{EntersWith, AppendsIt, AcceptsIt}
use Rattle.protocol_laws.proofs.TransferInitial.{LeadsWith, initial_back, no_initial}
use Rattle.protocol_laws.proofs.TransferReached.{Enters}

-- a node becomes leader of a configuration and has the entry
pub record LeadsHolding (t u : Moment) (c : Membership) (x : Preparation) : Type 0 where
  pub leading : Leading t u c
  pub holds : StandsIn x (entries_of leading.node.rows)

-- the earlier configuration whose entries a new leader has
pub record LeadsFrom (t u : Moment) (c : Membership) (l : Leading t u c) : Type 0 where
  pub earlier : Membership
  pub shard : earlier.shard ≡ c.shard
  pub listed : (x : Preparation) → StandsIn x (entries_of l.node.rows) → Listed t earlier x

-- the leader of a configuration, still in its epoch
pub record LeaderNow (u : Moment) (c : Membership) : Type 0 where
  pub node : NodeRecord
  pub is : IsNode u node
  pub named : node.name ≡ c.leader
  pub state : node.state ≡ c.epoch

-- what its leader holds of the list is in its rows
pub in_its_rows : (u : Moment) (c : Membership) (x : Preparation) → PromisesHold u → (n : LeaderNow u c) → Listed u c x → StandsIn x (entries_of n.node.rows)
in_its_rows u c x pu n l = pu.held n.node x n.is (subst (λ (e : ℕ). Held u e n.node.name x) (sym n.state) (subst (λ (k : ℕ). Held u c.epoch k x) (sym n.named) l.held))

module _ (tests : Tests) (setup : Deployment) (t : Moment) (event : Event) (h : Happening) (turn : Turn tests setup t event h) (cu : ConfigurationsHold setup (goes_to t h.after)) (onward : Onward t (goes_to t h.after)) where
  abbrev u : Moment
  u = goes_to t h.after

  -- a new leader is of an epoch above the first
  later_epoch : (c : Membership) → Leading t u c → 1 < c.epoch
  later_epoch c l = by (eq-or-lt_of_le (stored-some setup t c turn.before.configurations l.stored))
    where
      by : (1 ≡ c.epoch) ⊎ (1 < c.epoch) → 1 < c.epoch
      by (inl e) = absurd (no_initial tests setup t event h turn c l ([], record { stored = l.stored; begun = inl (sym e, refl) }))
      by (inr k) = k

  pub leads_from : (c : Membership) (l : Leading t u c) → LeadsFrom t u c l
  leads_from c l =
      let chosen : IsChosen t c = turn.before.choice.stored c l.stored (later_epoch c l) in
      let state : l.node.state ≡ chosen.state = leader_state tests setup t event h turn cu onward c l chosen in
      let one : 1 ≤ l.node.state = subst (λ n. 1 ≤ n) (sym state) chosen.some in
      let m : IsMemberAt t l.node = turn.before.promises.members l.node l.is one in
      record {
        earlier = m.config;
        shard = m.shard ∙ sym l.shard;
        listed = λ x s. turn.before.transfer.at_most m.config l.node.name x m.stored m.member
            (record { node = l.node; was = is_in-now t m.config.epoch l.node.name l.node l.is refl (sym m.epoch); some = subst (λ n. 1 ≤ n) (sym m.epoch) one; holds = s });
      }

  -- a listed entry was listed before, or comes with its new leader, or is appended
  pub listed_how : (c : Membership) (x : Preparation) → Listed u c x → Listed t c x ⊎ LeadsHolding t u c x ⊎ Appending tests t u c x
  listed_how c x l = by (held_how tests setup t event h turn cu onward c c.leader x l.initial.1.stored (leads_member setup u cu c l.initial.1.stored) l.held)
    where
      entered : (e : Enters t u c c.leader) → StandsIn x (entries_of e.new.rows) → LeadsAs t u c e.new ⊎ Following t u c e.new → Listed t c x ⊎ LeadsHolding t u c x ⊎ Appending tests t u c x
      entered e s (inl a) = inr (inl (record { leading = a.leading; holds = subst (λ rows. StandsIn x (entries_of rows)) (ap (λ (n : NodeRecord). n.rows) a.is) s }))
      entered e s (inr f) =
          let i : HasInitial t c = (entries_of e.new.rows, f.initial) in
          inl (record { initial = i; held = turn.before.transfer.at_least c c.leader (entries_of e.new.rows) x f.initial (leads_member setup t turn.before.configurations c f.stored) (turn.before.transfer.leader_reached c i) s })

      initial : Held t c.epoch c.leader x → Initial t c l.initial.0 ⊎ LeadsWith t u c l.initial.0 → HasInitial t c
      initial k (inl i) = (l.initial.0, i)
      initial k (inr w) = turn.before.transfer.led c w.leading.stored (record { node = k.node; was = k.was; some = k.some })

      by : Held t c.epoch c.leader x ⊎ Gains tests t u c c.leader x → Listed t c x ⊎ LeadsHolding t u c x ⊎ Appending tests t u c x
      by (inl k) = inl (record { initial = initial k (initial_back tests setup t event h turn cu onward c l.initial.0 l.initial.1); held = k })
      by (inr (EntersWith e k)) = entered e k e.how
      by (inr (AppendsIt a leads)) = inr (inr a)
      by (inr (AcceptsIt k)) = inl k

  -- the leader of a list that grows is in its epoch
  abbrev pub leading_now : (c : Membership) → Leading t u c → LeaderNow u c
  leading_now c l = record { node = record l.node { role = Leader c; state = c.epoch }; is = l.there; named = sym l.leader; state = refl }

  abbrev pub appending_now : (c : Membership) (x : Preparation) → Appending tests t u c x → LeaderNow u c
  appending_now c x a = record { node = record a.node { rows = a.node.rows ++ undecided x ∷ [] }; is = a.there; named = sym a.leader; state = sym a.of.epoch }

  -- what holds of two entries in the rows of one log, and of two that were listed before, holds of two that are listed
  both_listed : (P : Preparation → Preparation → Type 0) → PromisesHold u → (c : Membership) (x y : Preparation) → Listed u c x → Listed u c y → (Listed t c x → Listed t c y → P x y)
      → ((n : LeaderNow u c) → StandsIn x (entries_of n.node.rows) → StandsIn y (entries_of n.node.rows) → P x y) → P x y
  both_listed P pu c x y a b before now = by (listed_how c x a) (listed_how c y b)
    where
      in_rows : LeaderNow u c → P x y
      in_rows n = now n (in_its_rows u c x pu n a) (in_its_rows u c y pu n b)

      by : Listed t c x ⊎ LeadsHolding t u c x ⊎ Appending tests t u c x → Listed t c y ⊎ LeadsHolding t u c y ⊎ Appending tests t u c y → P x y
      by (inl k) (inl l) = before k l
      by (inr (inl k)) l = in_rows (leading_now c k.leading)
      by (inr (inr k)) l = in_rows (appending_now c x k)
      by (inl k) (inr (inl l)) = in_rows (leading_now c l.leading)
      by (inl k) (inr (inr l)) = in_rows (appending_now c y l)

  pub slots_then : PromisesHold u → (c : Membership) (x y : Preparation) → Listed u c x → Listed u c y → x.slot ≡ y.slot → x ≡ y
  slots_then pu c x y a b e = both_listed (λ p q. p.slot ≡ q.slot → p ≡ q) pu c x y a b (turn.before.entries.slots c x y) (λ n s r. rows-slot n.node.rows (pu.rows n.node n.is) x y s r) e

  pub txns_then : PromisesHold u → (c : Membership) (x y : Preparation) → Listed u c x → Listed u c y → x.txn ≡ y.txn → x ≡ y
  txns_then pu c x y a b e = both_listed (λ p q. p.txn ≡ q.txn → p ≡ q) pu c x y a b (turn.before.entries.txns c x y) (λ n s r. rows-txn n.node.rows (pu.rows n.node n.is) x y s r) e
