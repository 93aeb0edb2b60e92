-- How the nodes, messages and configurations of the moment after an event came to be: they were there before, or somebody acted.
use Rattle.std.proofs.Common.{◌≡◌, ℕ, ◌+◌, List, [], ◌∷◌, Some, ◌⊎◌, inl, inr, refl, sym, ap, subst, ◌∙◌}
use Rattle.tcs_terms.specs.declared.inputs.Event.{Event}
use Rattle.tcs_terms.specs.declared.inputs.Input.{Input}
use Rattle.tcs_terms.specs.declared.messages.Message.{Message}
use Rattle.tcs_terms.specs.declared.messages.Outgoing.{Outgoing}
use Rattle.tcs_terms.specs.Places.{Membership}
use Rattle.tcs_terms.specs.Setups.{Deployment}
use Rattle.tcs_laws.specs.Certification.{Tests}
use Rattle.protocol.specs.Invariant.Time.{Moment, goes_to, StandsIn, IsNode, IsStored, WasSent}
use Rattle.protocol.specs.Outcomes.{Out, to}
use Rattle.protocol.specs.Records.{NodeRecord}
use Rattle.protocol.specs.Service.{last_config}
use Rattle.protocol.specs.World.{Sent, Happening, happens_at}
use Rattle.protocol_laws.specs.Change.{Comes, Serves, Change}
use Rattle.protocol_laws.specs.Change.Serves.{HoldsBack, Tells, Stores}
use Rattle.protocol_laws.specs.Change.Change.{Passes, Stops, Acts, AtService}
use Rattle.protocol_laws.specs.Effect.{Effect}
use Rattle.protocol_laws.specs.Effect.Effect.{Rests}
use Rattle.protocol_laws.specs.Turn.{Turn}
use Rattle.protocol.proofs.Lists.{StandsIn-append}
use Rattle.protocol_laws.proofs.After.{put_node-back, put_node-there, sent-back, IsNew}
use Rattle.protocol_laws.proofs.ServiceSays.{ServiceSays, service_says}

-- a node keeps its name
pub effect_name : (tests : Tests) (version : ℕ) (node : NodeRecord) (input : Input) (out : Out NodeRecord) → Effect tests version node input out → out.kept.name ≡ node.name
effect_name tests version node input out (Rests i answer notices n) = refl
effect_name tests version node input out _ = refl

-- and its shard
pub effect_shard : (tests : Tests) (version : ℕ) (node : NodeRecord) (input : Input) (out : Out NodeRecord) → Effect tests version node input out → out.kept.shard ≡ node.shard
effect_shard tests version node input out (Rests i answer notices n) = refl
effect_shard tests version node input out _ = refl

-- a node that acts in an event, as it was before; what it keeps is the node after the event
pub record Acting (tests : Tests) (setup : Deployment) (t : Moment) (event : Event) (h : Happening) : Type 0 where
  pub node : NodeRecord
  pub input : Input
  pub out : Out NodeRecord
  pub comes : Comes t.now node.name event input
  pub is : IsNode t node
  pub effect : Effect tests setup.version node input out
  pub there : IsNode (goes_to t h.after) out.kept
  pub happens : h ≡ happens_at t.now node.name out

-- a node after an event, if it acted in it
pub record IsOfActing (tests : Tests) (setup : Deployment) (t : Moment) (event : Event) (h : Happening) (new : NodeRecord) : Type 0 where
  pub acting : Acting tests setup t event h
  pub is : new ≡ acting.out.kept

-- a message that a node sent in an event
pub record IsSentBy (tests : Tests) (setup : Deployment) (t : Moment) (event : Event) (h : Happening) (from dest : ℕ) (m : Message) : Type 0 where
  pub acting : Acting tests setup t event h
  pub sender : from ≡ acting.node.name
  pub among : StandsIn (to dest m) acting.out.sends

abbrev pub acting_of : (tests : Tests) (setup : Deployment) (t : Moment) (event : Event) (name : ℕ) (node : NodeRecord) (input : Input) (out : Out NodeRecord) → Comes t.now name event input → IsNode t node → node.name ≡ name
    → Effect tests setup.version node input out → Acting tests setup t event (happens_at t.now name out)
acting_of tests setup t event name node input out c s e f = record {
  node = node;
  input = input;
  out = out;
  comes = subst (λ n. Comes t.now n event input) (sym e) c;
  is = s;
  effect = f;
  there = put_node-there out.kept node t.now.nodes s (sym (effect_name tests setup.version node input out f));
  happens = ap (λ n. happens_at t.now n out) (sym e);
}

pub node_by : (tests : Tests) (setup : Deployment) (t : Moment) (event : Event) (h : Happening) → Change tests setup.version t.now event h → (new : NodeRecord) → IsNode (goes_to t h.after) new
    → IsNode t new ⊎ IsOfActing tests setup t event h new
node_by tests setup t event h (Passes e r a) new s = inl s
node_by tests setup t event h (Stops name) new s = inl s
node_by tests setup t event h (Acts e name node input out c found stands named running effect) new s = elim (put_node-back out.kept t.now.nodes new s) [
  | inl p ↦ inr (record { acting = acting_of tests setup t e name node input out c stands named effect; is = p })
  | inr p ↦ inl p.0
]
node_by tests setup t event h (AtService number from m sent out e found stands serves) new s = inl s

-- a node after an event is as before, or it acted
pub node_back : (tests : Tests) (setup : Deployment) (t : Moment) (event : Event) (h : Happening) → Turn tests setup t event h → (new : NodeRecord) → IsNode (goes_to t h.after) new
    → IsNode t new ⊎ IsOfActing tests setup t event h new
node_back tests setup t event h turn new s = node_by tests setup t event h turn.change new s

sent_from : (from sender dest : ℕ) (m : Message) (sends : List Outgoing) → IsNew sender sends (record { from = from; to = dest; message = m }) → (from ≡ sender) × StandsIn (to dest m) sends
sent_from from sender dest m sends n = (ap (λ s. s.from) n.is, subst (λ (o : Outgoing). StandsIn o sends) (sym (same n.outgoing n.is)) n.among)
  where
    same : (o : Outgoing) → ◌≡◌ {A = Sent} (record { from = from; to = dest; message = m }) (record { from = sender; to = o.to; message = o.message }) → to dest m ≡ o
    same o e = ap (λ (s : Sent). to s.to s.message) e

pub message_by : (tests : Tests) (setup : Deployment) (t : Moment) (event : Event) (h : Happening) → Change tests setup.version t.now event h → (from dest : ℕ) (m : Message) → WasSent (goes_to t h.after) from dest m
    → WasSent t from dest m ⊎ IsSentBy tests setup t event h from dest m ⊎ ServiceSays h.after.configs m
message_by tests setup t event h (Passes e r a) from dest m s = inl (record { sent = s.sent })
message_by tests setup t event h (Stops name) from dest m s = inl (record { sent = s.sent })
message_by tests setup t event h (Acts e name node input out c found stands named running effect) from dest m s = elim (sent-back t.now.messages name out.sends (record { from = from; to = dest; message = m }) s.sent) [
  | inl p ↦ inl (record { sent = p })
  | inr p ↦ (let q = sent_from from name dest m out.sends p in
      inr (inl (record { acting = acting_of tests setup t e name node input out c stands named effect; sender = q.0 ∙ sym named; among = q.1 })))
]
message_by tests setup t event h (AtService number asker asked sent out e found stands serves) from dest m s = elim (sent-back t.now.messages 0 out.sends (record { from = from; to = dest; message = m }) s.sent) [
  | inl p ↦ inl (record { sent = p })
  | inr p ↦ inr (inr (service_says _ t.now.configs asker asked out serves (to dest m) (sent_from from 0 dest m out.sends p).1))
]

-- a message after an event was sent before, by the node that acted, or by the service
pub message_back : (tests : Tests) (setup : Deployment) (t : Moment) (event : Event) (h : Happening) → Turn tests setup t event h → (from dest : ℕ) (m : Message) → WasSent (goes_to t h.after) from dest m
    → WasSent t from dest m ⊎ IsSentBy tests setup t event h from dest m ⊎ ServiceSays h.after.configs m
message_back tests setup t event h turn from dest m s = message_by tests setup t event h turn.change from dest m s

-- a configuration that an event stored: the next one of its shard
pub record IsNext (t : Moment) (c : Membership) : Type 0 where
  pub last : Membership
  pub is_last : last_config t.now.configs c.shard ≡ Some last
  pub epoch : c.epoch ≡ last.epoch + 1

serves_back : (nodes : ℕ) (t : Moment) (asker : ℕ) (asked : Message) (out : Out (List Membership)) → Serves nodes t.now.configs asker asked out → (c : Membership) → StandsIn c out.kept → IsStored t c ⊎ IsNext t c
serves_back nodes t asker asked out (HoldsBack m answer notices n) c s = inl s
serves_back nodes t asker asked out (Tells m told k) c s = inl s
serves_back nodes t asker asked out (Stores new last free is e) c s = elim (StandsIn-append t.now.configs (new ∷ []) c s) [
  | inl p ↦ inl p
  | inr p ↦ inr (go p)
]
  where
    go : (c ≡ new) ⊎ ⊥ → IsNext t c
    go (inl p) = subst (λ n. IsNext t n) (sym p) (record { last = last; is_last = is; epoch = e })
    go (inr p) = absurd p

config_by : (tests : Tests) (version : ℕ) (t : Moment) (event : Event) (h : Happening) → Change tests version t.now event h → (c : Membership) → IsStored (goes_to t h.after) c → IsStored t c ⊎ IsNext t c
config_by tests version t event h (Passes e r a) c s = inl s
config_by tests version t event h (Stops name) c s = inl s
config_by tests version t event h (Acts e name node input out comes found stands named running effect) c s = inl s
config_by tests version t event h (AtService number asker asked sent out e found stands serves) c s = serves_back _ t asker asked out serves c s

-- a configuration that is stored after an event was stored before, or is the next one of its shard
pub config_back : (tests : Tests) (setup : Deployment) (t : Moment) (event : Event) (h : Happening) → Turn tests setup t event h → (c : Membership) → IsStored (goes_to t h.after) c → IsStored t c ⊎ IsNext t c
config_back tests setup t event h turn c s = config_by tests setup.version t event h turn.change c s

-- the nodes after a node acted
pub acted_back : (tests : Tests) (setup : Deployment) (t : Moment) (event : Event) (h : Happening) (new : NodeRecord) → (a : Acting tests setup t event h) → IsNode (goes_to t h.after) new
    → (new ≡ a.out.kept) ⊎ (IsNode t new × (new.name ≡ a.out.kept.name → ⊥))
acted_back tests setup t event h new a s = put_node-back a.out.kept t.now.nodes new (subst (λ (x : Happening). StandsIn new x.after.nodes) a.happens s)
