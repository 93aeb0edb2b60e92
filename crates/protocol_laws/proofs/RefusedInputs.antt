-- What a node, the service or a world refuses changes nothing.
use Rattle.std.proofs.Common.{◌≡◌, ℕ, Bool, true, false, cond, ◌==◌, IsTrue, List, [], ◌∷◌, ◌++◌, map, inl, inr, sym, ◌∙◌, ap, ap₂, subst, refl, append-nil, eqb-true}
use Rattle.tcs_terms.specs.declared.inputs.Event.{Event}
use Rattle.tcs_terms.specs.declared.inputs.Handled.{Handled}
use Rattle.tcs_terms.specs.declared.inputs.Handled.TheVariants.{Acted, Stale, Held, Full}
use Rattle.tcs_terms.specs.declared.inputs.Input.{Input}
use Rattle.tcs_terms.specs.declared.inputs.Input.TheVariants as inputs
use Rattle.tcs_terms.specs.declared.inputs.Note.{Note}
use Rattle.tcs_terms.specs.declared.inputs.Result1.TheVariants.{Node}
use Rattle.tcs_terms.specs.declared.messages.Message.{Message}
use Rattle.tcs_terms.specs.declared.messages.Why.TheVariants as why
use Rattle.tcs_terms.specs.Order.{ascends}
use Rattle.tcs_terms.specs.Places.{Membership}
use Rattle.tcs_laws.specs.Certification.{Tests}
use Rattle.wire_frame.specs.Spelling.{kind_of}
use Rattle.protocol.specs.FoundNothing.{has_acted}
use Rattle.protocol.specs.Notices.{notice_of}
use Rattle.protocol.specs.Outcomes.{Out}
use Rattle.protocol.specs.Records.{NodeRecord}
use Rattle.protocol.specs.Service.{serve}
use Rattle.protocol.specs.Table.{step}
use Rattle.protocol.specs.World.{World, Happening, put_node, sent_by, happens_at, happens_at_service, world_step}
use Rattle.protocol.specs.Invariant.Time.{StandsIn}
use Rattle.protocol_laws.specs.Change.{Serves, Change}
use Rattle.protocol_laws.specs.Change.Change.{Passes, Stops, Acts, AtService}
use Rattle.protocol_laws.specs.Change.Serves.{HoldsBack, Tells, Stores}
use Rattle.protocol_laws.specs.Effect.{is_answered, notices_to, notices_for, Effect}
use Rattle.protocol_laws.specs.Effect.Effect.{Rests}
use Rattle.protocol_laws.specs.Refusals.{ChangesNothing, IsNotice, Silent, Notice, LeavesWorld}
use Rattle.protocol_laws.proofs.Ascending.{ascending-one}
use Rattle.protocol_laws.proofs.ChangeOf.{change_of}
use Rattle.protocol_laws.proofs.EffectOf.{effect_of}
use Rattle.protocol_laws.proofs.ServesOf.{serves_of}

effect-refused : (tests : Tests) (version : ℕ) (node : NodeRecord) (input : Input) (out : Out NodeRecord) → Effect tests version node input out → has_acted (Node out.answer) ≡ false
    → ChangesNothing node (notices_for input out.answer node.promised) out
effect-refused tests version node input out (Rests _ answer notices r) h = record { kept = refl; sent = r.only; noted = refl }
effect-refused tests version node input out _ h = absurd (cc h)

-- what a node refuses
pub step-refused : (tests : Tests) (version : ℕ) (node : NodeRecord) (input : Input) → has_acted (Node (step tests version node input).answer) ≡ false
    → ChangesNothing node (notices_for input (step tests version node input).answer node.promised) (step tests version node input)
step-refused tests version node input h = effect-refused tests version node input (step tests version node input) (effect_of tests version node input) h

serves-refused : (nodes : ℕ) (configs : List Membership) (from : ℕ) (message : Message) (out : Out (List Membership)) → Serves nodes configs from message out → has_acted (Node out.answer) ≡ false
    → ChangesNothing configs (notices_to from message out.answer 0) out
serves-refused nodes configs from message out (HoldsBack _ answer notices r) h = record { kept = refl; sent = r.only; noted = refl }
serves-refused nodes configs from message out (Tells _ c s) h = absurd (cc h)
serves-refused nodes configs from message out (Stores c last free l e) h = absurd (cc h)

-- what the service holds back
pub serve-refused : (nodes : ℕ) (configs : List Membership) (from : ℕ) (message : Message) → has_acted (Node (serve nodes configs from message).answer) ≡ false
    → ChangesNothing configs (notices_to from message (serve nodes configs from message).answer 0) (serve nodes configs from message)
serve-refused nodes configs from message h = serves-refused nodes configs from message (serve nodes configs from message) (serves_of nodes configs from message) h

-- ---- the world

-- a node put in its own place
put-same : (node : NodeRecord) (all nodes : List NodeRecord) → ((n : NodeRecord) → StandsIn n nodes → StandsIn n all) → IsTrue (ascends (map (λ (n : NodeRecord). n.name) all)) → StandsIn node all → put_node node nodes ≡ nodes
put-same node all [] inside up s = refl
put-same node all (x ∷ xs) inside up s = ap₂ {C = List NodeRecord} (λ y ys. y ∷ ys) (go (x.name == node.name) refl) (put-same node all xs (λ n m. inside n (inr m)) up s)
  where
    go : (b : Bool) → (x.name == node.name) ≡ b → cond b node x ≡ x
    go true e = ascending-one (λ (n : NodeRecord). n.name) all node x up s (inside x (inl refl)) (sym (eqb-true x.name node.name e))
    go false e = refl

-- the notices of an answer, as they are sent
one-notice : (name : ℕ) (input : Input) (answer : Handled) (full_mark : ℕ) → IsNotice (sent_by name (notices_for input answer full_mark))
one-notice name (inputs.Certify payload) answer full_mark = Silent
one-notice name (inputs.Take txn) answer full_mark = Silent
one-notice name inputs.Nudge answer full_mark = Silent
one-notice name (inputs.Move shard want) answer full_mark = Silent
one-notice name inputs.Lower answer full_mark = Silent
one-notice name (inputs.ReadName object) answer full_mark = Silent
one-notice name (inputs.Ask shard) answer full_mark = Silent
one-notice name (inputs.Deliver from message) answer full_mark = go (is_answered message) answer
  where
    go : (b : Bool) (told : Handled) → IsNotice (sent_by name (cond b (notice_of told from (kind_of message) full_mark) []))
    go true Acted = Silent
    go true (Stale mark) = Notice name from (kind_of message) mark why.Stale
    go true (Held mark) = Notice name from (kind_of message) mark why.Held
    go true Full = Notice name from (kind_of message) full_mark why.Full
    go false told = Silent

node-refused : (w : World) (name : ℕ) (node : NodeRecord) (input : Input) (out : Out NodeRecord) → IsTrue (ascends (map (λ (n : NodeRecord). n.name) w.nodes)) → StandsIn node w.nodes
    → ChangesNothing node (notices_for input out.answer node.promised) out → LeavesWorld w (happens_at w name out)
node-refused w name node input out up s c = record {
  noted = c.noted;
  sent = subst (λ os. IsNotice (sent_by name os)) (sym c.sent) (one-notice name input out.answer node.promised);
  after = ap₂ (λ (ns : List NodeRecord) (h : List Note). record { nodes = ns; configs = w.configs; messages = w.messages ++ sent_by name out.sends; stopped = w.stopped; history = h })
      (ap (λ (n : NodeRecord). put_node n w.nodes) c.kept ∙ put-same node w.nodes w.nodes (λ n m. m) up s) (ap (λ (ns : List Note). w.history ++ ns) c.noted ∙ append-nil w.history);
  nobody = λ e. absurd (cc e);
}

service-refused : (w : World) (from : ℕ) (message : Message) (out : Out (List Membership)) → ChangesNothing w.configs (notices_to from message out.answer 0) out → LeavesWorld w (happens_at_service w out)
service-refused w from message out c = record {
  noted = c.noted;
  sent = subst (λ os. IsNotice (sent_by 0 os)) (sym c.sent) (one-notice 0 (inputs.Deliver from message) out.answer 0);
  after = ap₂ (λ (cs : List Membership) (h : List Note). record { nodes = w.nodes; configs = cs; messages = w.messages ++ sent_by 0 out.sends; stopped = w.stopped; history = h })
      c.kept (ap (λ (ns : List Note). w.history ++ ns) c.noted ∙ append-nil w.history);
  nobody = λ e. absurd (cc e);
}

change-refused : (tests : Tests) (version : ℕ) (w : World) (event : Event) (h : Happening) → Change tests version w event h → IsTrue (ascends (map (λ (n : NodeRecord). n.name) w.nodes)) → has_acted h.result ≡ false → LeavesWorld w h
change-refused tests version w event h (Passes _ result q) up r = record {
  noted = refl;
  sent = Silent;
  after = ap (λ ms. record { nodes = w.nodes; configs = w.configs; messages = ms; stopped = w.stopped; history = w.history }) (sym (append-nil w.messages));
  nobody = λ e. refl;
}
change-refused tests version w event h (Stops name) up r = absurd (cc r)
change-refused tests version w event h (Acts _ name node input out comes found there named runs effect) up r = node-refused w name node input out up there (effect-refused tests version node input out effect r)
change-refused tests version w event h (AtService number from message sent out is found there serves) up r = service-refused w from message out (serves-refused _ w.configs from message out serves r)

-- what an event leaves as it was
pub world-refused : (tests : Tests) (version : ℕ) (w : World) (event : Event) → IsTrue (ascends (map (λ (n : NodeRecord). n.name) w.nodes)) → has_acted (world_step tests version w event).result ≡ false → LeavesWorld w (world_step tests version w event)
world-refused tests version w event up r = change-refused tests version w event (world_step tests version w event) (change_of tests version w event) up r
