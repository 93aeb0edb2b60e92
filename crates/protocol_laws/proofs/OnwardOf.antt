-- One event takes nothing away.
use Rattle.std.proofs.Common.{◌≡◌, ℕ, Bool, true, false, List, [], ◌∷◌, ◌++◌, length, ◌==◌, ◌⊎◌, inl, inr, sym, ◌∙◌, ap, subst, refl, arith, eqb-true, eq-eqb, append-nil}
use Rattle.tcs_terms.specs.declared.inputs.Event.{Event}
use Rattle.tcs_terms.specs.declared.inputs.Input.{Input}
use Rattle.tcs_terms.specs.declared.inputs.Note.{Note}
use Rattle.tcs_terms.specs.declared.messages.Message.{Message}
use Rattle.tcs_terms.specs.declared.messages.Message.TheVariants.{NewConfig}
use Rattle.tcs_terms.specs.Events.{event_fits, input_fits}
use Rattle.tcs_terms.specs.Places.{Membership}
use Rattle.tcs_terms.specs.Setups.{Deployment, has_node}
use Rattle.tcs_laws.specs.Certification.{Tests}
use Rattle.protocol.specs.Invariant.Configurations.{ConfigurationsHold, told_config}
use Rattle.protocol.specs.Invariant.Time.{Moment, goes_to, StandsIn, IsNode, IsStored, WasSent}
use Rattle.protocol.specs.Outcomes.{Out}
use Rattle.protocol.specs.Records.{NodeRecord}
use Rattle.protocol.specs.World.{World, Sent, Happening, happens_at, sent_by}
use Rattle.protocol_laws.specs.Change.{Change, Passes, Stops, Acts, AtService, Comes, ByCall, ByMessage, Serves, HoldsBack, Tells, Stores}
use Rattle.protocol_laws.specs.Turn.{Turn, Onward, Grows, GrewFrom, GrewTo}
use Rattle.protocol_laws.proofs.After.{put_node-back, put_node-there, put_node-other}
use Rattle.protocol_laws.proofs.GrowsOf.{StartsAtOne, grows_of}
use Rattle.protocol_laws.proofs.Lasting.{one_node}
use Rattle.protocol_laws.proofs.Stored.{stored-some}
use Rattle.protocol_laws.proofs.Standing.{StandsIn-left}
use Rattle.tcs_terms.proofs.BoolLaws.{right_of}

-- a node as it is grows into itself
grows_same : (node : NodeRecord) → Grows node node
grows_same node = record { name = refl; shard = refl; promised = omega arith; state = inl refl; next = omega arith; entries = λ e x s. s }

-- a moment at which the nodes are as they were
same_nodes : (t : Moment) (w : World) (notes : List Note) → ((s : Sent) → StandsIn s t.now.messages → StandsIn s w.messages) → ((c : Membership) → IsStored t c → StandsIn c w.configs)
    → w.history ≡ t.now.history ++ notes → w.nodes ≡ t.now.nodes → Onward t (goes_to t w)
same_nodes t w notes ms cs h e = record {
  messages = ms;
  stored = cs;
  notes = notes;
  history = h;
  forth = λ node s. record { new = node; is = subst (λ ns. StandsIn node ns) (sym e) s; grows = grows_same node };
  back = λ node s. record { old = node; is = subst (λ ns. StandsIn node ns) e s; grows = grows_same node };
  past = refl;
}

-- a stored configuration stays stored, whatever the service does
serves-keeps : (nodes : ℕ) (configs : List Membership) (from : ℕ) (message : Message) (out : Out (List Membership)) → Serves nodes configs from message out → (c : Membership) → StandsIn c configs → StandsIn c out.kept
serves-keeps nodes configs from m o (HoldsBack message answer notices a) c s = s
serves-keeps nodes configs from m o (Tells message d e) c s = s
serves-keeps nodes configs from m o (Stores d last a b e) c s = StandsIn-left configs (d ∷ []) c s

-- the configuration that a node is told to lead is stored, and so of an epoch of at least 1
starts_at_one : (setup : Deployment) (t : Moment) (name : ℕ) (event : Event) (input : Input) → ConfigurationsHold setup t → event_fits setup event ≡ true → Comes t.now name event input → StartsAtOne input
starts_at_one setup t name e i k f (ByCall input) from config h =
    let fits : input_fits setup input ≡ true = right_of (has_node setup.nodes name) (input_fits setup input) f in
    absurd (cc (subst (λ x. input_fits setup x ≡ true) h fits))
starts_at_one setup t name e i k f (ByMessage number sender message sent is found s) from config h =
    let is_new : message ≡ NewConfig config = cc in
    let was : WasSent t sender name message = record { sent = subst (λ x. StandsIn x t.now.messages) is s } in
    stored-some setup t config k (k.in_messages sender name message config was (ap told_config is_new))

-- the nodes after one of them grew
one_grew : (setup : Deployment) (t : Moment) (node : NodeRecord) (out : Out NodeRecord) → ConfigurationsHold setup t → IsNode t node → Grows node out.kept → Onward t (goes_to t (happens_at t.now node.name out).after)
one_grew setup t node out k n g = record {
  messages = λ s h. StandsIn-left t.now.messages (sent_by node.name out.sends) s h;
  stored = λ c s. s;
  notes = out.notes;
  history = refl;
  forth = λ old s. forth old s (old.name == node.name) refl;
  back = λ new s. back new (put_node-back out.kept t.now.nodes new s);
  past = refl;
}
  where
    forth : (old : NodeRecord) → IsNode t old → (b : Bool) → (old.name == node.name) ≡ b → GrewTo (goes_to t (happens_at t.now node.name out).after) old
    forth old s true e =
        let same : node ≡ old = one_node setup t node old k n s (sym (eqb-true old.name node.name e)) in
        record { new = out.kept; is = put_node-there out.kept node t.now.nodes n (sym g.name); grows = subst (λ m. Grows m out.kept) same g }
    forth old s false e = record { new = old; is = put_node-other out.kept old t.now.nodes s (λ q. absurd (cc (e, eq-eqb old.name node.name (q ∙ g.name)))); grows = grows_same old }

    back : (new : NodeRecord) → (new ≡ out.kept) ⊎ (StandsIn new t.now.nodes × (new.name ≡ out.kept.name → ⊥)) → GrewFrom t new
    back new (inl e) = record { old = node; is = n; grows = subst (λ m. Grows node m) (sym e) g }
    back new (inr p) = record { old = new; is = p.0; grows = grows_same new }

pub onward_of : (tests : Tests) (setup : Deployment) (t : Moment) (event : Event) (h : Happening) → Turn tests setup t event h → Onward t (goes_to t h.after)
onward_of tests setup t event h turn = go event h turn.fits turn.change
  where
    go : (event : Event) (h : Happening) → event_fits setup event ≡ true → Change tests setup.version t.now event h → Onward t (goes_to t h.after)
    go e h f (Passes event result a) = same_nodes t t.now [] (λ s x. x) (λ c s. s) (sym (append-nil t.now.history)) refl
    go e h f (Stops name) = same_nodes t h.after [] (λ s x. x) (λ c s. s) (sym (append-nil t.now.history)) refl
    go e h f (Acts event name node input out comes found s named up effect) =
        subst (λ n. Onward t (goes_to t (happens_at t.now n out).after)) named
        (one_grew setup t node out turn.before.configurations s
        (grows_of tests setup.version node input out (turn.before.promises.roles node s) (starts_at_one setup t name event input turn.before.configurations f comes) effect))
    go e h f (AtService number from message sent out is found s serves) =
        same_nodes t h.after out.notes (λ x m. StandsIn-left t.now.messages (sent_by 0 out.sends) x m) (serves-keeps (length t.now.nodes) t.now.configs from message out serves) refl refl
