-- One event keeps what the invariant says of configurations.
use Rattle.std.proofs.Common.{◌≡◌, ℕ, Bool, true, false, cond, List, [], ◌∷◌, map, filter, length, Some, None, inl, inr, sym, ◌∙◌, subst, ap, refl, ◌==◌, eqb-true}
use Rattle.std.specs.List.{range_with_len}
use Rattle.tcs_terms.specs.declared.inputs.Event.{Event}
use Rattle.tcs_terms.specs.declared.inputs.Input.{Input}
use Rattle.tcs_terms.specs.declared.messages.Message.{Message}
use Rattle.tcs_terms.specs.declared.messages.Message.TheVariants.{Cas, Refused}
use Rattle.tcs_terms.specs.Events.{event_fits}
use Rattle.tcs_terms.specs.Places.{Membership}
use Rattle.tcs_terms.specs.Setups.{Deployment}
use Rattle.tcs_laws.specs.Certification.{Tests}
use Rattle.protocol.specs.Outcomes.{Out}
use Rattle.protocol.specs.Records.{NodeRecord}
use Rattle.protocol.specs.Service.{last_epoch}
use Rattle.protocol.specs.World.{World, Sent, Happening, put_node, happens_at, happens_at_service}
use Rattle.protocol.specs.Invariant.{InvariantHolds}
use Rattle.protocol.specs.Invariant.Choice.{ChoiceHolds, StageHolds}
use Rattle.protocol.specs.Invariant.Configurations.{ConfigurationsHold, HasMembers, WantsNodes, configs_of, probed_configs, told_config, epochs_of}
use Rattle.protocol.specs.Invariant.Time.{Moment, StandsIn, IsNode, IsStored, WasSent, goes_to}
use Rattle.protocol_laws.specs.Change.{Comes, Serves, Change}
use Rattle.protocol_laws.specs.Change.Change.{Passes, Stops, Acts, AtService}
use Rattle.protocol_laws.specs.Effect.{Effect}
use Rattle.protocol_laws.specs.Turn.{Turn}
use Rattle.protocol_laws.proofs.After.{put_node-back, sent-back}
use Rattle.protocol_laws.proofs.Lasting.{one_node}
use Rattle.protocol_laws.proofs.ConfigurationsSaid.{Says, says, is_plain, plain-tells}
use Rattle.protocol_laws.proofs.ConfigurationsSaid.Says.{Plainly, Answers, Tells, Proposes}
use Rattle.protocol_laws.proofs.ConfigurationsHad.{Heard, had, configs_had}
use Rattle.protocol_laws.proofs.ConfigurationsSame.{SameNode, same_node}
use Rattle.protocol_laws.proofs.ConfigurationsWanted.{WantsWell, wants_kept}
use Rattle.protocol_laws.proofs.ConfigurationsInputs.{delivered, moved}
use Rattle.protocol_laws.proofs.ConfigurationsStored.{service_keeps, service_stored, service_epochs}
use Rattle.protocol_laws.proofs.ServiceSays.ServiceSays.{TellsStored, TellsChange, Refuses}
use Rattle.protocol_laws.proofs.ServiceSays.{ServiceSays, service_says}

-- what is said of one node
record NodeFits (setup : Deployment) (u : Moment) (node : NodeRecord) : Type 0 where
  pub views : map (λ v. v.shard) node.coordinator.views ≡ range_with_len 1 setup.shards
  pub stored : (c : Membership) → StandsIn c (configs_of node) → IsStored u c
  pub wanted : WantsNodes setup node.prober

-- what is said of one message
record MessageFits (setup : Deployment) (u : Moment) (m : Message) : Type 0 where
  pub stored : (c : Membership) → told_config m ≡ Some c → IsStored u c
  pub proposed : (c : Membership) → m ≡ Cas c → HasMembers setup c

-- what a later moment has of an earlier one: nodes have their names and shards, the rest is said one by one
record KeepsPlaces (setup : Deployment) (t u : Moment) : Type 0 where
  pub names : map (λ n. n.name) u.now.nodes ≡ map (λ n. n.name) t.now.nodes
  pub shards : map (λ n. n.shard) u.now.nodes ≡ map (λ n. n.shard) t.now.nodes
  pub epochs : (shard : ℕ) → epochs_of u shard ≡ range_with_len 1 (last_epoch u.now.configs shard)
  pub nodes : (node : NodeRecord) → IsNode u node → NodeFits setup u node
  pub messages : (s : Sent) → StandsIn s u.now.messages → MessageFits setup u s.message
  pub members : (c : Membership) → IsStored u c → HasMembers setup c

keeps_places : (setup : Deployment) (t u : Moment) → ConfigurationsHold setup t → KeepsPlaces setup t u → ConfigurationsHold setup u
keeps_places setup t u c k = record {
  names = k.names ∙ c.names;
  shards = k.shards ∙ c.shards;
  views = λ node n. (k.nodes node n).views;
  epochs = k.epochs;
  in_nodes = λ node d n s. (k.nodes node n).stored d s;
  in_messages = λ from to m d s e. (k.messages (record { from = from; to = to; message = m }) s.sent).stored d e;
  members = k.members;
  proposed = λ from to d s. (k.messages (record { from = from; to = to; message = Cas d }) s.sent).proposed d refl;
  wanted = λ node n. (k.nodes node n).wanted;
}

old_node : (setup : Deployment) (t u : Moment) → ConfigurationsHold setup t → ((c : Membership) → IsStored t c → IsStored u c) → (node : NodeRecord) → IsNode t node → NodeFits setup u node
old_node setup t u c keep node n = record { views = c.views node n; stored = λ d s. keep d (c.in_nodes node d n s); wanted = c.wanted node n }

old_message : (setup : Deployment) (t u : Moment) → ConfigurationsHold setup t → ((c : Membership) → IsStored t c → IsStored u c) → (s : Sent) → StandsIn s t.now.messages → MessageFits setup u s.message
old_message setup t u c keep s k = record {
  stored = λ d e. keep d (c.in_messages s.from s.to s.message d (record { sent = k }) e);
  proposed = λ d e. c.proposed s.from s.to d (record { sent = subst (λ m. StandsIn (record { from = s.from; to = s.to; message = m }) t.now.messages) e k });
}

-- nodes, configurations and messages as they were
nothing_changes : (setup : Deployment) (t : Moment) (w : World) → ConfigurationsHold setup t → w.nodes ≡ t.now.nodes → w.configs ≡ t.now.configs → w.messages ≡ t.now.messages → KeepsPlaces setup t (goes_to t w)
nothing_changes setup t w c n g m = record {
  names = ap (λ ns. map (λ n. n.name) ns) n;
  shards = ap (λ ns. map (λ n. n.shard) ns) n;
  epochs = λ shard. subst (λ cs. map (λ d. d.epoch) (filter (λ d. d.shard == shard) cs) ≡ range_with_len 1 (last_epoch cs shard)) (sym g) (c.epochs shard);
  nodes = λ node s. old_node setup t (goes_to t w) c (λ d k. subst (λ cs. StandsIn d cs) (sym g) k) node (subst (λ ns. StandsIn node ns) n s);
  messages = λ s k. old_message setup t (goes_to t w) c (λ d q. subst (λ cs. StandsIn d cs) (sym g) q) s (subst (λ ms. StandsIn s ms) m k);
  members = λ d k. c.members d (subst (λ cs. StandsIn d cs) g k);
}

-- what is the same of a node and of the one that is put in its place
put_node-map : {X : Type 0} (f : NodeRecord → X) (kept : NodeRecord) (nodes : List NodeRecord) → ((n : NodeRecord) → StandsIn n nodes → n.name ≡ kept.name → f kept ≡ f n) → map f (put_node kept nodes) ≡ map f nodes
put_node-map f kept [] h = refl
put_node-map {X = X} f kept (n ∷ ns) h = go (n.name == kept.name) refl (put_node-map f kept ns (λ m s e. h m (inr s) e))
  where
    go : (b : Bool) → (n.name == kept.name) ≡ b → map f (put_node kept ns) ≡ map f ns → (f (cond b kept n) ∷ map f (put_node kept ns)) ≡ (f n ∷ map f ns)
    go true e ih = let a : f kept ≡ f n = h n (inl refl) (eqb-true n.name kept.name e) in cc (a, ih)
    go false e ih = cc ih

-- the stage of a node wants well
wants_well : (setup : Deployment) (t : Moment) (node : NodeRecord) → ConfigurationsHold setup t → ChoiceHolds t → IsNode t node → WantsWell setup node.prober
wants_well setup t node c h n = record {
  wants = c.wanted node n;
  probed = λ shard want epoch k low e. (
    c.members k (c.in_nodes node k n ((had node k).prober (subst (λ p. StandsIn k (probed_configs p)) (sym e) (inl refl)))),
    (subst (λ p. StageHolds t p) e (h.stages node n)).0,
  );
}

-- a configuration that the input told is stored
pub heard_is_stored : (setup : Deployment) (t : Moment) (name : ℕ) (event : Event) (input : Input) → ConfigurationsHold setup t → Comes t.now name event input → event_fits setup event ≡ true → (c : Membership) → Heard input c → IsStored t c
heard_is_stored setup t name event input c k f d h = c.in_messages h.from name h.message d (delivered setup t name event input k f h.from h.message h.is) h.told

plain-fits : (setup : Deployment) (u : Moment) (m : Message) → is_plain m ≡ true → MessageFits setup u m
plain-fits setup u m p = record {
  stored = λ c e. absurd (let x : told_config m ≡ None = plain-tells m p in cc (x, e));
  proposed = λ c e. absurd (let x : is_plain (Cas c) ≡ true = subst (λ n. is_plain n ≡ true) e p in cc x);
}

-- what a node says is so
said-fits : (setup : Deployment) (u : Moment) (node kept : NodeRecord) (input : Input) (m : Message) → ((c : Membership) → Heard input c → IsStored u c) → WantsNodes setup kept.prober → Says node kept input m → MessageFits setup u m
said-fits setup u node kept input m h w (Plainly n p) = plain-fits setup u n p
said-fits setup u node kept input m h w (Answers from epoch e l st pr) = record { stored = λ c e. absurd (cc e); proposed = λ c e. absurd (cc e) }
said-fits setup u node kept input m h w (Tells n from heard c e k q) = record {
  stored = λ d r. let x : c ≡ d = cc (q, r) in subst (λ y. IsStored u y) x (h c (record { from = from; message = heard; is = e; told = k }));
  proposed = λ d r. absurd (cc (q, ap told_config r));
}
said-fits setup u node kept input m h w (Proposes c e) = record {
  stored = λ d r. absurd (cc r);
  proposed = λ d r. let x : c ≡ d = cc r in subst (λ y. HasMembers setup y) x (subst (λ p. WantsNodes setup p) e w);
}

acts_kept : (tests : Tests) (setup : Deployment) (t : Moment) (event : Event) (name : ℕ) (node : NodeRecord) (input : Input) (out : Out NodeRecord) → InvariantHolds tests setup t → event_fits setup event ≡ true
    → Comes t.now name event input → IsNode t node → Effect tests setup.version node input out → KeepsPlaces setup t (goes_to t (happens_at t.now name out).after)
acts_kept tests setup t event name node input out v f k n e =
    let c : ConfigurationsHold setup t = v.configurations in
    let same : SameNode node out.kept = same_node tests setup.version node input out e in
    let wanted : WantsNodes setup out.kept.prober = wants_kept setup tests setup.version node input out e (wants_well setup t node c v.choice n) (moved setup t name event input k f) in
    let u : Moment = goes_to t (happens_at t.now name out).after in
    record {
      names = put_node-map (λ n. n.name) out.kept t.now.nodes (λ m s q. sym q);
      shards = put_node-map (λ n. n.shard) out.kept t.now.nodes (λ m s q. same.shard ∙ ap (λ n. n.shard) (one_node setup t node m c n s (sym same.name ∙ sym q)));
      epochs = c.epochs;
      nodes = λ m s. elim (put_node-back out.kept t.now.nodes m s) [
        | inl q ↦ subst (λ x. NodeFits setup u x) (sym q) (record {
          views = same.views ∙ c.views node n;
          stored = λ d r. elim (configs_had tests setup.version node input out e d r) [ inl a ↦ c.in_nodes node d n a | inr b ↦ heard_is_stored setup t name event input c k f d b ];
          wanted = wanted;
        })
        | inr q ↦ old_node setup t u c (λ d r. r) m q.0
      ];
      messages = λ m s. elim (sent-back t.now.messages name out.sends m s) [
        | inl q ↦ old_message setup t u c (λ d r. r) m q
        | inr q ↦ subst (λ x. MessageFits setup u x.message) (sym q.is) (said-fits setup u node out.kept input q.outgoing.message (heard_is_stored setup t name event input c k f) wanted (says tests setup.version node input out e q.outgoing q.among))
      ];
      members = c.members;
    }

service-fits : (setup : Deployment) (u : Moment) (m : Message) → ServiceSays u.now.configs m → MessageFits setup u m
service-fits setup u m (TellsStored c k) = record { stored = λ q r. let x : c ≡ q = cc r in subst (λ y. IsStored u y) x k; proposed = λ q r. absurd (cc r) }
service-fits setup u m (TellsChange c k) = record { stored = λ q r. let x : c ≡ q = cc r in subst (λ y. IsStored u y) x k; proposed = λ q r. absurd (cc r) }
service-fits setup u m (Refuses kind why mark) = plain-fits setup u (Refused kind why mark) refl

serves_kept : (setup : Deployment) (t : Moment) (from : ℕ) (message : Message) (out : Out (List Membership)) → ConfigurationsHold setup t → WasSent t from 0 message
    → Serves (length t.now.nodes) t.now.configs from message out → KeepsPlaces setup t (goes_to t (happens_at_service t.now out).after)
serves_kept setup t from message out c sent s =
    let u : Moment = goes_to t (happens_at_service t.now out).after in
    let n : ℕ = length t.now.nodes in
    let keep : ((d : Membership) → IsStored t d → IsStored u d) = service_keeps n t.now.configs from message out s in
    record {
      names = refl;
      shards = refl;
      epochs = λ shard. service_epochs n t.now.configs from message out s shard (c.epochs shard);
      nodes = λ m k. old_node setup t u c keep m k;
      messages = λ m k. elim (sent-back t.now.messages 0 out.sends m k) [
        | inl q ↦ old_message setup t u c keep m q
        | inr q ↦ subst (λ x. MessageFits setup u x.message) (sym q.is) (service-fits setup u q.outgoing.message (service_says n t.now.configs from message out s q.outgoing q.among))
      ];
      members = λ d k. elim (service_stored n t.now.configs from message out s d k) [
        | inl q ↦ c.members d q
        | inr q ↦ c.proposed from 0 d (subst (λ m. WasSent t from 0 m) q sent)
      ];
    }

change_kept : (tests : Tests) (setup : Deployment) (t : Moment) (event : Event) (h : Happening) → InvariantHolds tests setup t → event_fits setup event ≡ true → Change tests setup.version t.now event h → KeepsPlaces setup t (goes_to t h.after)
change_kept tests setup t event h v f (Passes e result a) = nothing_changes setup t t.now v.configurations refl refl refl
change_kept tests setup t event h v f (Stops name) = nothing_changes setup t _ v.configurations refl refl refl
change_kept tests setup t event h v f (Acts e name node input out k o n m g x) = acts_kept tests setup t event name node input out v f k n x
change_kept tests setup t event h v f (AtService number from message sent out e o n s) =
    serves_kept setup t from message out v.configurations (record { sent = subst (λ k. StandsIn k t.now.messages) e n }) s

-- One event keeps the configurations.
pub configurations_kept : (tests : Tests) (setup : Deployment) (t : Moment) (event : Event) (h : Happening) → Turn tests setup t event h → ConfigurationsHold setup (goes_to t h.after)
configurations_kept tests setup t event h turn = keeps_places setup t (goes_to t h.after) turn.before.configurations (change_kept tests setup t event h turn.before turn.fits turn.change)
