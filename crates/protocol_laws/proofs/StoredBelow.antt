-- All epochs below the one that a prober is to make are stored.
use Rattle.std.proofs.Common.{◌≡◌, ℕ, ◌+◌, ◌<◌, List, filter, ◌==◌, inl, inr, sym, subst, refl, arith, eqb-true, eq-eqb}
use Rattle.tcs_terms.specs.declared.inputs.Event.{Event}
use Rattle.tcs_terms.specs.declared.inputs.Input.{Input}
use Rattle.tcs_terms.specs.declared.inputs.Input.TheVariants as inputs
use Rattle.tcs_terms.specs.declared.messages.Message.TheVariants.{Stored}
use Rattle.tcs_terms.specs.declared.messages.Outgoing.{Outgoing}
use Rattle.tcs_terms.specs.Places.{Membership}
use Rattle.tcs_terms.specs.Setups.{Deployment}
use Rattle.tcs_laws.specs.Certification.{Tests}
use Rattle.protocol.specs.Outcomes.{Out}
use Rattle.protocol.specs.Records.{Stage, NodeRecord}
use Rattle.protocol.specs.Records.Stage.{Idle, AskedLast, Probing, AskedLower, CasSent}
use Rattle.protocol.specs.Run.{run}
use Rattle.protocol.specs.Service.{last_epoch}
use Rattle.protocol.specs.World.{World, Happening, first_node, first_world}
use Rattle.protocol.specs.Invariant.Configurations.{ConfigurationsHold}
use Rattle.protocol.specs.Invariant.Time.{Moment, goes_to, StandsIn, IsNode, IsStored}
use Rattle.protocol.proofs.FirstNodes.{IsFirst, first_nodes-IsFirst}
use Rattle.protocol.proofs.Moments.{time_after-now}
use Rattle.protocol_laws.specs.Effect.{Hears, Effect}
use Rattle.protocol_laws.specs.Effect.Effect.{Moves, Lowers, Learns, Chooses, FindsLow}
use Rattle.protocol_laws.specs.Effect.Hears.{Waits, ProbesLast, ProbesLower, IsDone}
use Rattle.protocol_laws.specs.EpochsBelow.{IsStoredAt, AreStoredBelow, StandsOnStored}
use Rattle.tcs_terms.specs.Runs.{AreEventsOf}
use Rattle.protocol_laws.specs.Turn.{Turn}
use Rattle.protocol_laws.proofs.Came.{node_back, Acting}
use Rattle.protocol_laws.proofs.ConfigurationsInputs.{delivered}
use Rattle.protocol_laws.proofs.Numbered.{numbered-below, numbered_there}
use Rattle.protocol_laws.proofs.OnwardOf.{onward_of}
use Rattle.protocol_laws.proofs.RunInduction.{run_induction}
use Rattle.protocol_laws.proofs.Standing.{StandsIn-filter, filter-StandsIn}

-- the stored epochs of a shard are 1 to its last one: below one that is stored, and next to it, all are
below_next : (setup : Deployment) (t : Moment) (c : Membership) → ConfigurationsHold setup t → IsStored t c → AreStoredBelow t.now c.shard (c.epoch + 1)
below_next setup t c k s q some low =
    let of_shard : List Membership = filter (λ (x : Membership). x.shard == c.shard) t.now.configs in
    let there : StandsIn c of_shard = StandsIn-filter (λ (x : Membership). x.shard == c.shard) t.now.configs c s (eq-eqb c.shard c.shard refl) in
    let last : c.epoch < 1 + last_epoch t.now.configs c.shard = numbered-below (λ (x : Membership). x.epoch) of_shard 1 (last_epoch t.now.configs c.shard) c (k.epochs c.shard) there in
    let found : (x : Membership) × StandsIn x of_shard × (x.epoch ≡ q) = numbered_there (λ (x : Membership). x.epoch) of_shard 1 (last_epoch t.now.configs c.shard) q (k.epochs c.shard) some (omega (arith, low, last)) in
    let is = filter-StandsIn (λ (x : Membership). x.shard == c.shard) t.now.configs found.0 found.1 in
    record { config = found.0; stored = is.0; of_shard = eqb-true found.0.shard c.shard is.1; of_epoch = found.2 }

heard-stored : (setup : Deployment) (t : Moment) (me : ℕ) (config : Membership) (view : ℕ) (stage new : Stage) (asked : List Outgoing) → Hears me config view stage new asked → ConfigurationsHold setup t → IsStored t config
    → StandsOnStored t.now stage → StandsOnStored t.now new
heard-stored setup t me config view _ _ _ (Waits stage) k s h = h
heard-stored setup t me config view _ _ _ (ProbesLast shard want e l below) k s h = subst (λ n. AreStoredBelow t.now n (config.epoch + 1)) e (below_next setup t config k s)
heard-stored setup t me config view _ _ _ (ProbesLower shard want epoch asked e q) k s h = h
heard-stored setup t me config view _ _ _ (IsDone kept e q) k s h = tt

effect-stored : (setup : Deployment) (t : Moment) (tests : Tests) (version : ℕ) (node : NodeRecord) (input : Input) (out : Out NodeRecord) → Effect tests version node input out → ConfigurationsHold setup t
    → ((from : ℕ) (config : Membership) → input ≡ inputs.Deliver from (Stored config) → IsStored t config) → StandsOnStored t.now node.prober → StandsOnStored t.now out.kept.prober
effect-stored setup t tests version node input out (Moves shard want) k told h = tt
effect-stored setup t tests version node input out (Lowers shard want epoch probed low e some above) k told h = subst (StandsOnStored t.now) e h
effect-stored setup t tests version node input out (Learns from config coordinator sent stage asked sees hears) k told h = heard-stored setup t node.name config _ node.prober stage asked hears k (told from config refl) h
effect-stored setup t tests version node input out (Chooses from state shard want epoch probed low e member le) k told h = subst (StandsOnStored t.now) e h
effect-stored setup t tests version node input out (FindsLow from state shard want epoch probed low e member lt) k told h = subst (StandsOnStored t.now) e h
effect-stored setup t tests version node input out _ k told h = h

-- what is stored stays
below-on : (v w : World) (shard epoch : ℕ) → ((c : Membership) → StandsIn c v.configs → StandsIn c w.configs) → AreStoredBelow v shard epoch → AreStoredBelow w shard epoch
below-on v w shard epoch on h q some low = let s : IsStoredAt v shard q = h q some low in record { config = s.config; stored = on s.config s.stored; of_shard = s.of_shard; of_epoch = s.of_epoch }

stage-on : (v w : World) (stage : Stage) → ((c : Membership) → StandsIn c v.configs → StandsIn c w.configs) → StandsOnStored v stage → StandsOnStored w stage
stage-on v w Idle on h = tt
stage-on v w (AskedLast shard want) on h = tt
stage-on v w (Probing shard want epoch probed low) on h = below-on v w shard epoch on h
stage-on v w (AskedLower shard want epoch asked) on h = below-on v w shard epoch on h
stage-on v w (CasSent config) on h = below-on v w config.shard config.epoch on h

abbrev EachOnStored : Moment → Type 0
EachOnStored t = (node : NodeRecord) → IsNode t node → StandsOnStored t.now node.prober

turn-stored : (tests : Tests) (setup : Deployment) (t : Moment) (event : Event) (h : Happening) → Turn tests setup t event h → EachOnStored t → EachOnStored (goes_to t h.after)
turn-stored tests setup t event h turn k node n = stage-on t.now h.after node.prober (onward_of tests setup t event h turn).stored (elim (node_back tests setup t event h turn node n) [ inl old ↦ k node old | inr new ↦ now new.acting new.is ])
  where
    now : (a : Acting tests setup t event h) → node ≡ a.out.kept → StandsOnStored t.now node.prober
    now a e = subst (λ (x : NodeRecord). StandsOnStored t.now x.prober) (sym e) (effect-stored setup t tests setup.version a.node a.input a.out a.effect turn.before.configurations
        (λ from config is. turn.before.configurations.in_messages from a.node.name (Stored config) config (delivered setup t a.node.name event a.input a.comes turn.fits from (Stored config) is) refl)
        (k a.node a.is))

first-stored : (setup : Deployment) (node : NodeRecord) → StandsIn node (first_world setup).nodes → StandsOnStored (first_world setup) node.prober
unfolding first_world first_node
first-stored setup node s =
    let f : IsFirst setup.configs 1 node = first_nodes-IsFirst setup.configs 1 setup.nodes node s in
    subst (λ (x : NodeRecord). StandsOnStored (first_world setup) x.prober) (sym f.is) tt

pub run-stored_below : (tests : Tests) (setup : Deployment) (events : List Event) → AreEventsOf setup events → (node : NodeRecord) → StandsIn node (run tests setup events).nodes → StandsOnStored (run tests setup events) node.prober
run-stored_below tests setup events a = subst (λ (w : World). (node : NodeRecord) → StandsIn node w.nodes → StandsOnStored w node.prober) (time_after-now tests setup events)
    (run_induction tests setup EachOnStored (λ t event h turn after may k. turn-stored tests setup t event h turn k) (first-stored setup) events a)
