-- One event keeps state transfer.
use Rattle.std.proofs.Common.{◌≡◌, ℕ, ◌≤◌, List, ◌⊎◌, inl, inr, sym, ◌∙◌, ap, subst, refl}
use Rattle.tcs_terms.specs.declared.inputs.Event.{Event}
use Rattle.tcs_terms.specs.Places.{Membership}
use Rattle.tcs_terms.specs.Preparations.{Preparation}
use Rattle.tcs_terms.specs.Setups.{Deployment}
use Rattle.tcs_laws.specs.Certification.{Tests}
use Rattle.protocol.specs.Invariant.Answers.{AnswersHold}
use Rattle.protocol.specs.Invariant.Choice.{ChoiceHolds}
use Rattle.protocol.specs.Invariant.Configurations.{ConfigurationsHold}
use Rattle.protocol.specs.Invariant.Logs.{entries_of, Reached, Held, Initial, HasInitial, Listed}
use Rattle.protocol.specs.Invariant.Promises.{PromisesHold}
use Rattle.protocol.specs.Invariant.Time.{Moment, goes_to, StandsIn, IsStored}
use Rattle.protocol.specs.Invariant.Transfer.{TransferHolds}
use Rattle.protocol.specs.Records.{NodeRecord}
use Rattle.protocol.specs.Records.Role.{Leader}
use Rattle.protocol.specs.World.{Happening}
use Rattle.protocol_laws.specs.Turn.{Turn, Onward}
use Rattle.protocol_laws.proofs.Lasting.{one_node, is_in-now, reached-on, held-on, has_initial-on, listed-on}
use Rattle.protocol_laws.proofs.OnwardOf.{onward_of}
use Rattle.protocol_laws.proofs.Stored.{stored-some, leads_member}
use Rattle.protocol_laws.proofs.TransferEnters.{LeadsAs, Leading, Following}
use Rattle.protocol_laws.proofs.TransferGathering.{kept_then, in_order_then}
use Rattle.protocol_laws.proofs.TransferHandedOn.{handed_on_then}
use Rattle.protocol_laws.proofs.TransferHeld.{Gains, held_how}
use Rattle.protocol_laws.proofs.TransferHeld.Gains.{EntersWith, AppendsIt, AcceptsIt}
use Rattle.protocol_laws.proofs.TransferInitial.{LeadsWith, initial_back, no_initial, initial_now}
use Rattle.protocol_laws.proofs.TransferReached.{Enters, reached_how, stored_then}
use Rattle.protocol_laws.proofs.TransferSent.{whole_then, pieces_then}

module _ (tests : Tests) (setup : Deployment) (t : Moment) (event : Event) (h : Happening) (turn : Turn tests setup t event h) (cu : ConfigurationsHold setup (goes_to t h.after)) (onward : Onward t (goes_to t h.after)) where
  abbrev u : Moment
  u = goes_to t h.after

  back : (c : Membership) (entries : List Preparation) → Initial u c entries → Initial t c entries ⊎ LeadsWith t u c entries
  back = initial_back tests setup t event h turn cu onward

  -- a configuration that had its initial entries has no leader that becomes it now
  not_both : {A : Type 0} (c : Membership) → Leading t u c → HasInitial t c → A
  not_both c l i = absurd (no_initial tests setup t event h turn c l i)

  -- two that become leader of one configuration now are one
  one_leads : (c : Membership) (a b : Leading t u c) → a.node ≡ b.node
  one_leads c a b = one_node setup t a.node b.node turn.before.configurations a.is b.is (sym a.leader ∙ b.leader)

  once_then : (c : Membership) (xs ys : List Preparation) → Initial u c xs → Initial u c ys → xs ≡ ys
  once_then c xs ys i j = by (back c xs i) (back c ys j)
    where
      by : Initial t c xs ⊎ LeadsWith t u c xs → Initial t c ys ⊎ LeadsWith t u c ys → xs ≡ ys
      by (inl a) (inl b) = turn.before.transfer.once c xs ys a b
      by (inl a) (inr b) = not_both c b.leading (xs, a)
      by (inr a) (inl b) = not_both c a.leading (ys, b)
      by (inr a) (inr b) = a.is ∙ (ap (λ (n : NodeRecord). entries_of n.rows) (one_leads c a.leading b.leading) ∙ sym b.is)

  leader_reached_then : (c : Membership) → HasInitial u c → Reached u c.epoch c.leader
  leader_reached_then c i = by (back c i.0 i.1)
    where
      by : Initial t c i.0 ⊎ LeadsWith t u c i.0 → Reached u c.epoch c.leader
      by (inl a) = reached-on t u c.epoch c.leader onward (turn.before.transfer.leader_reached c (i.0, a))
      by (inr a) = record {
        node = record a.leading.node { role = Leader c; state = c.epoch };
        was = is_in-now u c.epoch c.leader (record a.leading.node { role = Leader c; state = c.epoch }) a.leading.there (sym a.leading.leader) refl;
        some = stored-some setup u c cu i.1.stored;
      }

  -- who enters a configuration sees its initial entries defined
  entered_initial : (c : Membership) (name : ℕ) → Enters t u c name → HasInitial u c
  entered_initial c name e = by e.how
    where
      by : LeadsAs t u c e.new ⊎ Following t u c e.new → HasInitial u c
      by (inl l) = (entries_of l.leading.node.rows, initial_now t h.after c onward l.leading)
      by (inr f) = has_initial-on t u c onward (entries_of e.new.rows, f.initial)

  reached_has_initial_then : (c : Membership) (name : ℕ) → IsStored u c → StandsIn name c.members → Reached u c.epoch name → HasInitial u c
  reached_has_initial_then c name s m r = elim (reached_how tests setup t event h turn cu onward c name s m r) [
    | inl k ↦ has_initial-on t u c onward (turn.before.transfer.reached_has_initial c name (stored_then tests setup t event h turn cu onward c name s m k) m k)
    | inr e ↦ entered_initial c name e
  ]

  led_then : (c : Membership) → IsStored u c → Reached u c.epoch c.leader → HasInitial u c
  led_then c s r = reached_has_initial_then c c.leader s (leads_member setup u cu c s) r

  -- what is in the rows of who entered is held
  holds_now : (c : Membership) (name : ℕ) (x : Preparation) → 1 ≤ c.epoch → (e : Enters t u c name) → StandsIn x (entries_of e.new.rows) → Held u c.epoch name x
  holds_now c name x one e s = record { node = e.new; was = is_in-now u c.epoch name e.new e.there e.named e.state; some = one; holds = s }

  at_least_then : (c : Membership) (name : ℕ) (entries : List Preparation) (x : Preparation) → Initial u c entries → StandsIn name c.members → Reached u c.epoch name → StandsIn x entries → Held u c.epoch name x
  at_least_then c name entries x i m r s = by (back c entries i) (reached_how tests setup t event h turn cu onward c name i.stored m r)
    where
      entered : (e : Enters t u c name) → LeadsAs t u c e.new ⊎ Following t u c e.new → Initial t c entries ⊎ LeadsWith t u c entries → Held u c.epoch name x
      entered e (inl l) (inl a) = not_both c l.leading (entries, a)
      entered e (inl l) (inr a) =
          let rows : entries ≡ entries_of e.new.rows = a.is ∙ (ap (λ (n : NodeRecord). entries_of n.rows) (one_leads c a.leading l.leading) ∙ ap (λ (n : NodeRecord). entries_of n.rows) (sym l.is)) in
          holds_now c name x r.some e (subst (λ xs. StandsIn x xs) rows s)
      entered e (inr f) (inl a) = holds_now c name x r.some e (subst (λ xs. StandsIn x xs) (turn.before.transfer.once c entries (entries_of e.new.rows) a f.initial) s)
      entered e (inr f) (inr a) = not_both c a.leading (entries_of e.new.rows, f.initial)

      by : Initial t c entries ⊎ LeadsWith t u c entries → Reached t c.epoch name ⊎ Enters t u c name → Held u c.epoch name x
      by (inl a) (inl k) = held-on t u c.epoch name x onward (turn.before.transfer.at_least c name entries x a m k s)
      by (inr a) (inl k) = not_both c a.leading (turn.before.transfer.reached_has_initial c name a.leading.stored m k)
      by a (inr e) = entered e e.how a

  at_most_then : (c : Membership) (name : ℕ) (x : Preparation) → IsStored u c → StandsIn name c.members → Held u c.epoch name x → Listed u c x
  at_most_then c name x s m held = by (held_how tests setup t event h turn cu onward c name x s m held)
    where
      entered : (e : Enters t u c name) → StandsIn x (entries_of e.new.rows) → LeadsAs t u c e.new ⊎ Following t u c e.new → Listed u c x
      entered e k (inl l) =
          let named : name ≡ c.leader = sym e.named ∙ (ap (λ (n : NodeRecord). n.name) l.is ∙ sym l.leading.leader) in
          record { initial = entered_initial c name e; held = subst (λ n. Held u c.epoch n x) named (holds_now c name x held.some e k) }
      entered e k (inr f) =
          let i : HasInitial t c = (entries_of e.new.rows, f.initial) in
          listed-on t u c x onward (record {
            initial = i;
            held = turn.before.transfer.at_least c c.leader (entries_of e.new.rows) x f.initial (leads_member setup t turn.before.configurations c f.stored) (turn.before.transfer.leader_reached c i) k;
          })

      by : Held t c.epoch name x ⊎ Gains tests t u c name x → Listed u c x
      by (inl k) =
          let r : Reached t c.epoch name = record { node = k.node; was = k.was; some = k.some } in
          listed-on t u c x onward (turn.before.transfer.at_most c name x (stored_then tests setup t event h turn cu onward c name s m r) m k)
      by (inr (EntersWith e k)) = entered e k e.how
      by (inr (AppendsIt a leads)) =
          let r : Reached t c.epoch c.leader = record { node = a.node; was = is_in-now t c.epoch c.leader a.node a.is (sym a.leader) (sym a.of.epoch); some = a.some } in
          record { initial = has_initial-on t u c onward (turn.before.transfer.led c a.stored r); held = subst (λ n. Held u c.epoch n x) (sym leads) held }
      by (inr (AcceptsIt l)) = listed-on t u c x onward l

pub transfer_kept : (tests : Tests) (setup : Deployment) (t : Moment) (event : Event) (h : Happening) → Turn tests setup t event h
    → ConfigurationsHold setup (goes_to t h.after) → PromisesHold (goes_to t h.after) → AnswersHold (goes_to t h.after) → ChoiceHolds (goes_to t h.after) → TransferHolds (goes_to t h.after)
transfer_kept tests setup t event h turn cu promises answers choice =
    let onward : Onward t (goes_to t h.after) = onward_of tests setup t event h turn in
    record {
      handed_on = handed_on_then tests setup t event h turn cu onward;
      once = once_then tests setup t event h turn cu onward;
      whole = λ from to c rows s. whole_then tests setup t event h turn onward from to c rows s;
      pieces = λ from to number pieces c rows s. pieces_then tests setup t event h turn onward from to number pieces c rows s;
      kept = λ node g piece n e s. kept_then tests setup t event h turn onward node g piece n e s;
      in_order = λ node g n e. in_order_then tests setup t event h turn node g n e;
      at_least = at_least_then tests setup t event h turn cu onward;
      at_most = at_most_then tests setup t event h turn cu onward;
      led = led_then tests setup t event h turn cu onward;
      leader_reached = leader_reached_then tests setup t event h turn cu onward;
      reached_has_initial = reached_has_initial_then tests setup t event h turn cu onward;
    }
