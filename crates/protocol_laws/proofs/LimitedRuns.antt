-- A run under the limit on its frames' bytes is the run, up to where it ends.
use Rattle.std.proofs.Common.{◌≡◌, ℕ, ◌+◌, ◌≤◌, List, [], ◌∷◌, ◌++◌, append_assoc, append-nil, length, fold, nat_lt, sym, ◌∙◌, ap, subst, refl, arith}
use Rattle.std.proofs.lemmas.Bool.{ltb-true, ltb-false}
use Rattle.std.proofs.lemmas.List.Sums.{sum_by-append}
use Rattle.tcs_terms.specs.declared.inputs.Event.{Event}
use Rattle.tcs_terms.specs.Setups.{Deployment}
use Rattle.tcs_laws.specs.Certification.{Tests}
use Rattle.protocol.specs.Limit.{Progress, Step, frame_bytes, frame_limit, remains, limited_step, limited_run}
use Rattle.protocol.specs.Limit.Progress.{Live, Ended}
use Rattle.protocol.specs.Run.{run, world_after}
use Rattle.protocol.specs.World.{World, Happening, first_world, world_step}
use Rattle.protocol_laws.proofs.ChangeOf.{change_of}
use Rattle.protocol_laws.proofs.Guards.{by_guard}
use Rattle.protocol_laws.specs.Change.{Change, Passes, Stops, Acts, AtService}
use Rattle.protocol_laws.specs.Limits.{IsWhole, LimitHolds}

-- the messages after an event are those before and those that it sends
pub messages_grow : (tests : Tests) (version : ℕ) (w : World) (event : Event) (h : Happening) → Change tests version w event h → h.after.messages ≡ w.messages ++ h.sent
messages_grow tests version w event h (Passes e result q) = sym (append-nil w.messages)
messages_grow tests version w event h (Stops name) = sym (append-nil w.messages)
messages_grow tests version w event h (Acts e name node input out c n s m k x) = refl
messages_grow tests version w event h (AtService number from message sent out e m s x) = refl

-- the history after an event is that before, and what the event notes
pub history_grows : (tests : Tests) (version : ℕ) (w : World) (event : Event) (h : Happening) → Change tests version w event h → h.after.history ≡ w.history ++ h.notes
history_grows tests version w event h (Passes e result q) = sym (append-nil w.history)
history_grows tests version w event h (Stops name) = sym (append-nil w.history)
history_grows tests version w event h (Acts e name node input out c n s m k x) = refl
history_grows tests version w event h (AtService number from message sent out e m s x) = refl

bytes_grow : (tests : Tests) (version : ℕ) (w : World) (event : Event)
    → frame_bytes (world_step tests version w event).after.messages ≡ frame_bytes w.messages + frame_bytes (world_step tests version w event).sent
bytes_grow tests version w event =
    let h : Happening = world_step tests version w event in
    ap frame_bytes (messages_grow tests version w event h (change_of tests version w event)) ∙ sum_by-append _ w.messages h.sent

after_on : (tests : Tests) (version : ℕ) (w : World) (events : List Event) (event : Event)
    → world_after tests version w (events ++ event ∷ []) ≡ (world_step tests version (world_after tests version w events) event).after
unfolding world_after
after_on tests version w [] event = refl
after_on tests version w (e ∷ es) event = after_on tests version (world_step tests version w e).after es event

-- a run with one more event
pub run_on : (tests : Tests) (setup : Deployment) (events : List Event) (event : Event)
    → run tests setup (events ++ event ∷ []) ≡ (world_step tests setup.version (run tests setup events) event).after
unfolding run
run_on tests setup events event = after_on tests setup.version (first_world setup) events event

length_on : (events : List Event) (event : Event) → length events + 1 ≡ length (events ++ event ∷ [])
length_on [] event = refl
length_on (e ∷ es) event = let h : length es + 1 ≡ length (es ++ event ∷ []) = length_on es event in omega (arith, h)

-- the sum of a run's frames after one more event
bytes_on : (tests : Tests) (setup : Deployment) (events : List Event) (event : Event) (w : World) (count bytes : ℕ) → IsWhole tests setup events w count bytes
    → bytes + frame_bytes (world_step tests setup.version w event).sent ≡ frame_bytes (run tests setup (events ++ event ∷ [])).messages
bytes_on tests setup events event w count bytes l =
    ap (λ b. b + frame_bytes (world_step tests setup.version w event).sent) l.summed
    ∙ sym (bytes_grow tests setup.version w event)
    ∙ ap (λ x. frame_bytes (world_step tests setup.version x event).after.messages) l.world
    ∙ ap (λ x. frame_bytes x.messages) (sym (run_on tests setup events event))

-- one event more
limited_on : (tests : Tests) (setup : Deployment) (events : List Event) (event : Event) (p : Progress) → LimitHolds tests setup events p
    → LimitHolds tests setup (events ++ event ∷ []) (limited_step tests setup.version p event).after
unfolding limited_step
limited_on tests setup events event (Live w count bytes) l =
    by_guard {A = Step} (λ step. LimitHolds tests setup (events ++ event ∷ []) step.after) (nat_lt frame_limit (bytes + frame_bytes (world_step tests setup.version w event).sent))
    (λ passes. record {
      before = events;
      event = event;
      after = [];
      split = refl;
      world = ap remains l.world;
      counted = l.counted;
      within = subst (λ x. frame_bytes x.messages ≤ frame_limit) l.world (subst (λ b. b ≤ frame_limit) l.summed l.within);
      summed = bytes_on tests setup events event w count bytes l;
      passed = ltb-true frame_limit (bytes + frame_bytes (world_step tests setup.version w event).sent) passes;
    })
    (λ goes. record {
      world = ap (λ x. (world_step tests setup.version x event).after) l.world ∙ sym (run_on tests setup events event);
      counted = let c : count ≡ length events = l.counted in let m : length events + 1 ≡ length (events ++ event ∷ []) = length_on events event in omega (arith, c, m);
      summed = ap (λ b. b + frame_bytes (world_step tests setup.version w event).sent) l.summed ∙ sym (bytes_grow tests setup.version w event);
      within = ltb-false frame_limit (bytes + frame_bytes (world_step tests setup.version w event).sent) goes;
    })
limited_on tests setup events event (Ended w count bytes) l = record {
  before = l.before;
  event = l.event;
  after = l.after ++ event ∷ [];
  split = ap (λ es. es ++ event ∷ []) l.split ∙ append_assoc l.before (l.event ∷ l.after) (event ∷ []);
  world = l.world;
  counted = l.counted;
  within = l.within;
  summed = l.summed;
  passed = l.passed;
}

limited_from : (tests : Tests) (setup : Deployment) (rest events : List Event) (p : Progress) → LimitHolds tests setup events p
    → LimitHolds tests setup (events ++ rest) (fold (λ q e. (limited_step tests setup.version q e).after) p rest)
limited_from tests setup [] events p l = subst (λ es. LimitHolds tests setup es p) (sym (append-nil events)) l
limited_from tests setup (e ∷ es) events p l =
    subst (λ all. LimitHolds tests setup all (fold (λ q x. (limited_step tests setup.version q x).after) (limited_step tests setup.version p e).after es)) (append_assoc events (e ∷ []) es)
    (limited_from tests setup es (events ++ e ∷ []) (limited_step tests setup.version p e).after (limited_on tests setup events e p l))

nothing_yet : (tests : Tests) (setup : Deployment) → IsWhole tests setup [] (first_world setup) 0 0
unfolding run world_after first_world
nothing_yet tests setup = record { world = refl; counted = refl; summed = refl; within = omega arith }

pub limit_holds : (tests : Tests) (setup : Deployment) (events : List Event) → LimitHolds tests setup events (limited_run tests setup events)
unfolding limited_run
limit_holds tests setup events = limited_from tests setup events [] (Live (first_world setup) 0 0) (nothing_yet tests setup)
