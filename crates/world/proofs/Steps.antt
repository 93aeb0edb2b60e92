-- A step of the definition's run, told by what the cast does; and what is true of the world after it.
use Rattle.std.proofs.Common.{◌≡◌, ◌==◌, ℕ, zero, suc, ◌+◌, ◌-◌, ◌<◌, ◌≤◌, Bool, true, false, List, [], ◌∷◌, ◌++◌, length, map, get_or, Option, Some, None, refl, sym, ap, subst, ◌∙◌, arith, ◌⊎◌, inl, inr}
use Rattle.std.specs.Prelude.{nat_lt, All}
use Rattle.std.specs.List.{range_with_len}
use Rattle.std.proofs.Math.Seq.{map-set_same}
use Rattle.std.specs.Prelude.{nat_le}
use Rattle.std.proofs.lemmas.Bool.{leb-true}
use Rattle.std.proofs.lemmas.Bool.Decides.{nat_tests}
use Rattle.std.proofs.lemmas.List.{length-map}
use Rattle.std.proofs.lemmas.List.Sums.{sum_by-append}
use Rattle.std.proofs.lemmas.Option.{get_or_from_slice_get}
use Rattle.tcs_terms.specs.declared.inputs.Event.{Event}
use Rattle.tcs_terms.specs.declared.inputs.Event.TheVariants.{Call, DeliverNumber, Stop}
use Rattle.tcs_terms.specs.declared.inputs.Input.{Input}
use Rattle.tcs_terms.specs.declared.inputs.Input.TheVariants as inputs
use Rattle.tcs_terms.specs.declared.inputs.Note.{Note}
use Rattle.tcs_terms.specs.Events.{input_fits}
use Rattle.tcs_terms.specs.declared.messages.Outgoing.{Outgoing}
use Rattle.tcs_terms.specs.Messages.{InRange}
use Rattle.tcs_terms.specs.Places.{is_among}
use Rattle.tcs_terms.specs.Setups.{Deployment, IsDeployment, has_node}
use Rattle.tcs_terms.proofs.BoolLaws.{left_of, right_of}
use Rattle.tcs_laws.specs.Certification.{Tests}
use Rattle.tcs_laws.specs.Laws.{IsLawful}
use Rattle.wire_frame.specs.Spelling.{spell}
use Rattle.protocol.specs.Choices.{when}
use Rattle.protocol.specs.Limit.{Progress, frame_bytes, frame_limit, remains, ends, goes_on, limited_step, limited_run}
use Rattle.protocol.specs.Limit.Answer.{Happens, SoupFull}
use Rattle.protocol.specs.Limit.Progress.{Live, Ended}
use Rattle.protocol.specs.Records.{NodeRecord}
use Rattle.protocol.specs.Table.{step}
use Rattle.protocol.specs.World.{World, Sent, sent_by, message_of, world_step}
use Rattle.protocol_laws.specs.Promises.{KeepsItsPromises}
use Rattle.protocol_laws.specs.Ranges.{IsWorldInRange, IsEventInRange, IsHappeningInRange, ComesFromNode}
use Rattle.tcs_terms.specs.Runs.{MayStand, AreEventsOf}
use Rattle.world.specs.Casts.{Cast, Doing, taken, given, delivered, delivered_if_sent, stopping, does, peer_of, MayReach}
use Rattle.world.specs.Soundness.{world_in, GoesOn}
use Rattle.world.specs.Turns.{sum_with}
use Rattle.world.proofs.Casting.{Tells, does_tells}
use Rattle.protocol_laws.proofs.PromisesOfRun.{run_keeps_promises}
use Rattle.protocol_laws.proofs.RunsOn.{limited_run-on}
use Rattle.protocol_laws.proofs.Came.{effect_name}
use Rattle.protocol_laws.proofs.EffectOf.{effect_of}
use Rattle.protocol_laws.proofs.RangesWorld.{world_step-in_range}
use Rattle.tcs_terms.proofs.RunLaws.{input_in_range, event_joins}

-- what a cast keeps over an event: its version, how its nodes are named, and, unless nothing is sent, who stopped
record Lasts (cast : Cast) (d : Doing) : Type 0 where
  version : d.after.peers.version ≡ cast.peers.version
  names : map (λ n. n.name) d.after.peers.nodes ≡ map (λ n. n.name) cast.peers.nodes
  stopped : (d.after.stopped ≡ cast.stopped) ⊎ (d.sends ≡ [])

when_lasts : (cast : Cast) (b : Bool) (d e : Doing) → Lasts cast d → Lasts cast e → Lasts cast (when b d e)
unfolding when
when_lasts cast true d e one other = one
when_lasts cast false d e one other = other

rests_lasts : (cast : Cast) (d : Doing) → d.after ≡ cast → Lasts cast d
rests_lasts cast d same = record {
  version = ap (λ (c : Cast). c.peers.version) same;
  names = ap (λ (c : Cast). map (λ n. n.name) c.peers.nodes) same;
  stopped = inl (ap (λ (c : Cast). c.stopped) same);
}

given_lasts : (tests : Tests) (cast : Cast) (name : ℕ) (input : Input) → Lasts cast (given tests cast name input)
unfolding given
given_lasts tests cast name input = when_lasts cast (is_among cast.stopped name) _ _ (rests_lasts cast _ refl) (go (peer_of cast.peers name) refl)
  where
    go : (o : Option NodeRecord) → peer_of cast.peers name ≡ o → Lasts cast (taken tests cast name input o)
    go None e = rests_lasts cast _ refl
    go (Some node) e = record {
      version = refl;
      names = map-set_same (λ (n : NodeRecord). n.name) cast.peers.nodes (name - 1) (step tests cast.peers.version node input).kept node
          (effect_name tests cast.peers.version node input _ (effect_of tests cast.peers.version node input)
          ∙ ap (λ (n : NodeRecord). n.name) (sym (get_or_from_slice_get cast.peers.nodes (name - 1) node node e)));
      stopped = inl refl;
    }

delivered_lasts : (tests : Tests) (cast : Cast) (sent : Sent) → Lasts cast (delivered tests cast sent)
unfolding delivered
delivered_lasts tests cast sent =
    when_lasts cast (sent.to == 0) _ _ (record { version = refl; names = refl; stopped = inl refl }) (given_lasts tests cast sent.to (inputs.Deliver sent.from sent.message))

does_lasts : (tests : Tests) (cast : Cast) (messages : List Sent) (event : Event) → Lasts cast (does tests cast messages event)
unfolding does stopping
does_lasts tests cast messages (Call name input) = given_lasts tests cast name input
does_lasts tests cast messages (DeliverNumber number) = go (message_of messages number)
  where
    go : (o : Option Sent) → Lasts cast (delivered_if_sent tests cast o)
    go None = rests_lasts cast _ refl
    go (Some sent) = delivered_lasts tests cast sent
does_lasts tests cast messages (Stop name) =
    when_lasts cast (is_among cast.stopped name) _ _ (rests_lasts cast _ refl) (record { version = refl; names = refl; stopped = inr refl })

-- ---- what an event that may stand is

-- the cast may be given it
pub may_reach : (setup : Deployment) (event : Event) → IsDeployment setup → MayStand setup event → MayReach event
may_reach setup (Call name input) is may =
    let there = has_node setup.nodes name in (
      leb-true 1 name (left_of (nat_le 1 name) (nat_le name (length setup.nodes)) (left_of there (input_fits setup input) may.fits)),
      input_in_range setup input is (right_of there (input_fits setup input) may.fits),
    )
may_reach setup (DeliverNumber number) is may = tt
may_reach setup (Stop name) is may = tt

comes : (setup : Deployment) (input : Input) → input_fits setup input ≡ true → ComesFromNode input
comes setup (inputs.Certify payload) h = tt
comes setup (inputs.Take txn) h = tt
comes setup inputs.Nudge h = tt
comes setup (inputs.Move shard want) h = tt
comes setup inputs.Lower h = tt
comes setup (inputs.ReadName name) h = tt
comes setup (inputs.Ask shard) h = tt
comes setup (inputs.Deliver from message) h = absurd cc

event_in_range : (setup : Deployment) (event : Event) → IsDeployment setup → MayStand setup event → IsEventInRange event
event_in_range setup (Call name input) is may =
    (((may_reach setup (Call name input) is may).1, may.event), comes setup input (right_of (has_node setup.nodes name) (input_fits setup input) may.fits))
event_in_range setup (DeliverNumber number) is may = tt
event_in_range setup (Stop name) is may = tt

-- ---- small facts

not_above : (limit n : ℕ) → n ≤ limit → nat_lt limit n ≡ false
not_above limit n h = grind (arith, nat_tests)

above : (limit n : ℕ) → limit < n → nat_lt limit n ≡ true
above limit n h = grind (arith, nat_tests)

unmapped : {X Y : Type 0} (P : X → Type 0) (f : Y → X) (ys : List Y) → All P (map f ys) → All (λ y. P (f y)) ys
unmapped P f [] all = λ k d lt. absurd (omega arith)
unmapped {X = X} {Y = Y} P f (y ∷ ys) all = λ k d lt. go (unmapped P f ys (λ j e less. all (suc j) e (omega arith))) k d lt
  where
    go : All (λ z. P (f z)) ys → (k : ℕ) (d : Y) → k < length (y ∷ ys) → P (f (get_or (y ∷ ys) k d))
    go ih zero d lt = all 0 (f d) (omega arith)
    go ih (suc k) d lt = ih k d (omega arith)

same_count : (nodes after : List NodeRecord) → map (λ n. n.name) after ≡ map (λ n. n.name) nodes → length nodes ≡ length after
same_count nodes after h = sym (length-map nodes (λ (n : NodeRecord). n.name)) ∙ ap length (sym h) ∙ length-map after (λ (n : NodeRecord). n.name)

-- ---- the step of the definition

tells_in : (tests : Tests) (setup : Deployment) (cast : Cast) (messages : List Sent) (history : List Note) (event : Event)
    → GoesOn setup cast messages history → MayStand setup event
    → Tells (world_in cast messages history) (world_step tests setup.version (world_in cast messages history) event) (does tests cast messages event)
tells_in tests setup cast messages history event g may =
    subst (λ v. Tells (world_in cast messages history) (world_step tests v (world_in cast messages history) event) (does tests cast messages event)) g.version
    (does_tells tests cast.peers.version (world_in cast messages history) event g.named (may_reach setup event g.deployment may))

-- the world after what was done
abbrev pub world_after : List Sent → List Note → Doing → World
world_after messages history d = world_in d.after (messages ++ sent_by d.from d.sends) (history ++ d.notes)

-- within the limit the run goes on
pub step_goes : (tests : Tests) (setup : Deployment) (cast : Cast) (messages : List Sent) (history : List Note) (events : ℕ) (event : Event)
    → GoesOn setup cast messages history → MayStand setup event → sum_with messages (does tests cast messages event) ≤ frame_limit
    → limited_step tests setup.version (Live (world_in cast messages history) events (frame_bytes messages)) event
    ≡ (let d = does tests cast messages event in record {
      answer = Happens d.result d.notes (sent_by d.from d.sends);
      after = Live (world_after messages history d) (events + 1) (sum_with messages d);
    })
unfolding limited_step when
step_goes tests setup cast messages history events event g may low =
    let w = world_in cast messages history in
    let d = does tests cast messages event in
    let h = world_step tests setup.version w event in
    let t : Tells w h d = tells_in tests setup cast messages history event g may in
    let bytes : frame_bytes messages + frame_bytes h.sent ≡ sum_with messages d = ap (λ sent. frame_bytes messages + frame_bytes sent) t.sent in
    let test : nat_lt frame_limit (frame_bytes messages + frame_bytes h.sent) ≡ false = not_above frame_limit _ (subst (λ n. n ≤ frame_limit) (sym bytes) low) in
    ap (λ (b : Bool). when b (ends w events (frame_bytes messages + frame_bytes h.sent)) (goes_on h events (frame_bytes messages + frame_bytes h.sent))) test
    ∙ (λ i. record { answer = Happens (t.result i) (t.notes i) (t.sent i); after = Live (t.after i) (events + 1) (bytes i) })

-- beyond the limit it ends
pub step_ends : (tests : Tests) (setup : Deployment) (cast : Cast) (messages : List Sent) (history : List Note) (events : ℕ) (event : Event)
    → GoesOn setup cast messages history → MayStand setup event → frame_limit < sum_with messages (does tests cast messages event)
    → limited_step tests setup.version (Live (world_in cast messages history) events (frame_bytes messages)) event
    ≡ (let d = does tests cast messages event in record {
      answer = SoupFull (sum_with messages d);
      after = Ended (remains (world_in d.after messages history)) events (sum_with messages d);
    })
unfolding limited_step when
step_ends tests setup cast messages history events event g may high =
    let w = world_in cast messages history in
    let d = does tests cast messages event in
    let h = world_step tests setup.version w event in
    let t : Tells w h d = tells_in tests setup cast messages history event g may in
    let bytes : frame_bytes messages + frame_bytes h.sent ≡ sum_with messages d = ap (λ sent. frame_bytes messages + frame_bytes sent) t.sent in
    let test : nat_lt frame_limit (frame_bytes messages + frame_bytes h.sent) ≡ true = above frame_limit _ (subst (λ n. frame_limit < n) (sym bytes) high) in
    let stopped : cast.stopped ≡ d.after.stopped = go d high (does_lasts tests cast messages event).stopped in
    ap (λ (b : Bool). when b (ends w events (frame_bytes messages + frame_bytes h.sent)) (goes_on h events (frame_bytes messages + frame_bytes h.sent))) test
    ∙ (λ i. record {
      answer = SoupFull (bytes i);
      after = Ended (record { nodes = []; configs = []; messages = messages; stopped = stopped i; history = history }) events (bytes i);
    })
  where
    go : (d : Doing) → frame_limit < sum_with messages d → (d.after.stopped ≡ cast.stopped) ⊎ (d.sends ≡ []) → cast.stopped ≡ d.after.stopped
    go d more (inl same) = sym same
    go d more (inr none) =
        let nothing : frame_bytes (sent_by d.from d.sends) ≡ 0 = ap (λ sends. frame_bytes (sent_by d.from sends)) none in
        absurd (omega (arith, nothing, more, g.within))

-- ---- what is true after an event

in_range_after : (tests : Tests) (setup : Deployment) (cast : Cast) (messages : List Sent) (history : List Note) (event : Event)
    → GoesOn setup cast messages history → MayStand setup event
    → IsHappeningInRange (world_step tests setup.version (world_in cast messages history) event)
in_range_after tests setup cast messages history event g may =
    world_step-in_range tests setup.version (world_in cast messages history) event g.in_range (event_in_range setup event g.deployment may)

-- what is sent is in range
pub sends_in_range : (tests : Tests) (setup : Deployment) (cast : Cast) (messages : List Sent) (history : List Note) (event : Event)
    → GoesOn setup cast messages history → MayStand setup event → All (λ o. InRange o.message) (does tests cast messages event).sends
sends_in_range tests setup cast messages history event g may =
    let d = does tests cast messages event in
    let t = tells_in tests setup cast messages history event g may in
    let sent = (in_range_after tests setup cast messages history event g may).sent in
    unmapped (λ (s : Sent). InRange s.message) (λ (o : Outgoing). let s : Sent = record { from = d.from; to = o.to; message = o.message } in s) d.sends
    (subst (λ ss. All (λ s. InRange s.message) ss) t.sent (λ k e lt. (sent k e lt).message))

pub goes_on_after : (tests : Tests) (setup : Deployment) (cast : Cast) (messages : List Sent) (history : List Note) (event : Event)
    → GoesOn setup cast messages history → MayStand setup event → sum_with messages (does tests cast messages event) ≤ frame_limit
    → (let d = does tests cast messages event in GoesOn setup d.after (messages ++ sent_by d.from d.sends) (history ++ d.notes))
goes_on_after tests setup cast messages history event g may low =
    let w = world_in cast messages history in
    let d = does tests cast messages event in
    let h = world_step tests setup.version w event in
    let t : Tells w h d = tells_in tests setup cast messages history event g may in
    let l : Lasts cast d = does_lasts tests cast messages event in
    record {
      deployment = g.deployment;
      version = l.version ∙ g.version;
      named = l.names ∙ g.named ∙ ap (λ n. range_with_len 1 n) (same_count cast.peers.nodes d.after.peers.nodes l.names);
      in_range = subst IsWorldInRange t.after (in_range_after tests setup cast messages history event g may).after;
      within = subst (λ n. n ≤ frame_limit) (sym (sum_by-append (λ (s : Sent). length (spell s.message)) messages (sent_by d.from d.sends))) low;
    }

-- ---- the promises

pub promises_after : (tests : Tests) (setup : Deployment) (events : List Event) (event : Event) (before after : Progress)
    → IsLawful tests → MayStand setup event → AreEventsOf setup events → limited_run tests setup events ≡ before
    → after ≡ (limited_step tests setup.version before event).after → KeepsItsPromises tests setup (events ++ event ∷ []) after
promises_after tests setup events event before after lawful may are is next =
    subst (KeepsItsPromises tests setup (events ++ event ∷ []))
    (limited_run-on tests setup events event ∙ ap (λ p. (limited_step tests setup.version p event).after) is ∙ sym next)
    (run_keeps_promises tests setup (events ++ event ∷ []) lawful (event_joins setup events event are may))
