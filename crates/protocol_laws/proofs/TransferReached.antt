-- Who reached a configuration after an event, and when its initial entries came to be defined.
use Rattle.std.proofs.Common.{◌≡◌, ℕ, ◌-◌, ◌<◌, ◌≤◌, true, ◌==◌, nat_le, length, slice_index, ◌⊎◌, inl, inr, sym, ◌∙◌, ap, subst, arith, leb-true}
use Rattle.tcs_terms.specs.declared.inputs.Event.{Event}
use Rattle.tcs_terms.specs.Places.{Membership}
use Rattle.tcs_terms.specs.Setups.{Deployment, has_node, is_node_of}
use Rattle.tcs_terms.proofs.BoolLaws.{left_of, right_of}
use Rattle.tcs_laws.specs.Certification.{Tests}
use Rattle.protocol.specs.Invariant.Configurations.{ConfigurationsHold}
use Rattle.protocol.specs.Invariant.Logs.{Reached}
use Rattle.protocol.specs.Invariant.Promises.{IsMemberAt}
use Rattle.protocol.specs.Invariant.Time.{Moment, goes_to, StandsIn, IsNode, IsStored}
use Rattle.protocol.specs.Records.{NodeRecord}
use Rattle.protocol.specs.World.{Happening}
use Rattle.protocol.proofs.Lists.{all-StandsIn}
use Rattle.protocol_laws.specs.Turn.{Turn, Onward, GrewTo}
use Rattle.protocol_laws.proofs.Lasting.{IsIn, reached-back, is_in-now}
use Rattle.protocol_laws.proofs.Numbered.{numbered_there}
use Rattle.protocol_laws.proofs.Stored.{one_config, next_above, member_shard}
use Rattle.protocol_laws.proofs.Came.{node_back, config_back, IsNext, IsOfActing, effect_name}
use Rattle.protocol_laws.proofs.TransferEnters.{enters, EntersAs, LeadsAs, Following}

-- a member of a configuration is a node of its shard
record IsThere (t : Moment) (c : Membership) (name : ℕ) : Type 0 where
  node : NodeRecord
  is : IsNode t node
  named : node.name ≡ name

-- the members of what is stored after an event are nodes before it
member_node : (setup : Deployment) (t u : Moment) → ConfigurationsHold setup t → ConfigurationsHold setup u → (c : Membership) (name : ℕ) → IsStored u c → StandsIn name c.members → IsThere t c name
member_node setup t u ct cu c name s m =
    let of : is_node_of setup.nodes c.shard name ≡ true = all-StandsIn (is_node_of setup.nodes c.shard) c.members name (cu.members c s).nodes m in
    let has : has_node setup.nodes name ≡ true = left_of (has_node setup.nodes name) (slice_index setup.nodes (name - 1) == c.shard) of in
    let low : 1 ≤ name = leb-true 1 name (left_of (nat_le 1 name) (nat_le name (length setup.nodes)) has) in
    let high : name ≤ length setup.nodes = leb-true name (length setup.nodes) (right_of (nat_le 1 name) (nat_le name (length setup.nodes)) has) in
    let x = numbered_there (λ (n : NodeRecord). n.name) t.now.nodes 1 (length setup.nodes) name ct.names low (omega (arith, high)) in
    record { node = x.0; is = x.1; named = x.2 }

-- what somebody reached was stored already
pub stored_then : (tests : Tests) (setup : Deployment) (t : Moment) (event : Event) (h : Happening) → Turn tests setup t event h → ConfigurationsHold setup (goes_to t h.after) → Onward t (goes_to t h.after) → (c : Membership) (name : ℕ) → IsStored (goes_to t h.after) c → StandsIn name c.members → Reached t c.epoch name → IsStored t c
stored_then tests setup t event h turn cu onward c name s m r = elim (config_back tests setup t event h turn c s) [
  | inl k ↦ k
  | inr next ↦ absurd (not_next next)
]
  where
    not_next : IsNext t c → ⊥
    not_next next =
        let n : IsThere t c name = member_node setup t (goes_to t h.after) turn.before.configurations cu c name s m in
        let low : c.epoch ≤ n.node.state = turn.before.promises.reached n.node c.epoch n.is (subst (λ k. Reached t c.epoch k) (sym n.named) r) in
        let one : 1 ≤ c.epoch = r.some in
        let at : IsMemberAt t n.node = turn.before.promises.members n.node n.is (omega (arith, low, one)) in
        let grown : GrewTo (goes_to t h.after) n.node = onward.forth n.node n.is in
        let here : n.node.shard ≡ c.shard = sym grown.grows.shard ∙ member_shard setup (goes_to t h.after) cu c grown.new s grown.is (subst (λ k. StandsIn k c.members) (sym (grown.grows.name ∙ n.named)) m) in
        let above : at.config.epoch < c.epoch = next_above setup t turn.before.configurations at.config c at.stored next (at.shard ∙ here) in
        omega (arith, above, low, at.epoch)

-- a node enters a configuration, as its leader or as a follower
pub record Enters (t u : Moment) (c : Membership) (name : ℕ) : Type 0 where
  pub new : NodeRecord
  pub there : IsNode u new
  pub named : new.name ≡ name
  pub state : new.state ≡ c.epoch
  pub how : LeadsAs t u c new ⊎ Following t u c new

-- the configuration that a member of a configuration enters at its epoch is that one
pub enters_it : (setup : Deployment) (t u : Moment) → Onward t u → ConfigurationsHold setup u → (c : Membership) (new : NodeRecord) → IsStored u c → IsNode u new → StandsIn new.name c.members → new.state ≡ c.epoch → EntersAs t u new → LeadsAs t u c new ⊎ Following t u c new
enters_it setup t u onward cu c new s n m e f = go f.how
  where
    shard : new.shard ≡ c.shard
    shard = member_shard setup u cu c new s n m

    go : LeadsAs t u f.config new ⊎ Following t u f.config new → LeadsAs t u c new ⊎ Following t u c new
    go (inl l) =
        let is : f.config ≡ c = one_config setup u f.config c cu (onward.stored f.config l.leading.stored) s (l.leading.shard ∙ (sym (ap (λ (x : NodeRecord). x.shard) l.is) ∙ shard)) (sym (ap (λ (x : NodeRecord). x.state) l.is) ∙ e) in
        inl (subst (λ (d : Membership). LeadsAs t u d new) is l)
    go (inr l) =
        let is : f.config ≡ c = one_config setup u f.config c cu (onward.stored f.config l.stored) s (l.shard ∙ shard) (sym l.state ∙ e) in
        inr (subst (λ (d : Membership). Following t u d new) is l)

abbrev pub entered : (setup : Deployment) (t u : Moment) (c : Membership) (name : ℕ) → Onward t u → ConfigurationsHold setup u → (i : IsIn u c.epoch name) → IsStored u c → StandsIn name c.members → EntersAs t u i.node → Enters t u c name
entered setup t u c name onward cu i s m f = record {
  new = i.node;
  there = i.is;
  named = i.named;
  state = i.in_epoch;
  how = enters_it setup t u onward cu c i.node s i.is (subst (λ k. StandsIn k c.members) (sym i.named) m) i.in_epoch f;
}

-- a member that reached a configuration reached it before, or enters it
pub reached_how : (tests : Tests) (setup : Deployment) (t : Moment) (event : Event) (h : Happening) → Turn tests setup t event h → ConfigurationsHold setup (goes_to t h.after) → Onward t (goes_to t h.after) → (c : Membership) (name : ℕ) → IsStored (goes_to t h.after) c → StandsIn name c.members → Reached (goes_to t h.after) c.epoch name
    → Reached t c.epoch name ⊎ Enters t (goes_to t h.after) c name
reached_how tests setup t event h turn cu onward c name s m r = elim (reached-back t (goes_to t h.after) c.epoch name onward r) [
  | inl k ↦ inl k
  | inr i ↦ is_in i (node_back tests setup t event h turn i.node i.is)
]
  where
    acted : (i : IsIn (goes_to t h.after) c.epoch name) (o : IsOfActing tests setup t event h i.node) → (o.acting.out.kept.state ≡ o.acting.node.state) ⊎ EntersAs t (goes_to t h.after) o.acting.out.kept → Reached t c.epoch name ⊎ Enters t (goes_to t h.after) c name
    acted i o (inl e) =
        let named : o.acting.node.name ≡ name = sym (effect_name tests setup.version o.acting.node o.acting.input o.acting.out o.acting.effect) ∙ (sym (ap (λ (x : NodeRecord). x.name) o.is) ∙ i.named) in
        let state : o.acting.node.state ≡ c.epoch = sym e ∙ (sym (ap (λ (x : NodeRecord). x.state) o.is) ∙ i.in_epoch) in
        inl (record { node = o.acting.node; was = is_in-now t c.epoch name o.acting.node o.acting.is named state; some = r.some })
    acted i o (inr f) = inr (entered setup t (goes_to t h.after) c name onward cu i s m (subst (λ (x : NodeRecord). EntersAs t (goes_to t h.after) x) (sym o.is) f))

    is_in : (i : IsIn (goes_to t h.after) c.epoch name) → IsNode t i.node ⊎ IsOfActing tests setup t event h i.node → Reached t c.epoch name ⊎ Enters t (goes_to t h.after) c name
    is_in i (inl n) = inl (record { node = i.node; was = is_in-now t c.epoch name i.node n i.named i.in_epoch; some = r.some })
    is_in i (inr o) = acted i o (enters tests setup t event h turn o.acting)
