-- What the definition's run says where the program's stands, and how one event more brings both on.
use Rattle.std.proofs.Common.{◌≡◌, ℕ, zero, suc, ◌+◌, ◌<◌, ◌≤◌, Bool, true, false, List, [], ◌∷◌, ◌++◌, length, length-append, Result, Ok, Err, refl, sym, subst, ap, ◌∙◌, arith}
use Rattle.std.specs.Prelude.{OnOk}
use Rattle.cert_serial.specs.Serial.{serial}
use Rattle.tcs_terms.specs.declared.inputs.Event.{Event}
use Rattle.tcs_terms.specs.Runs.{MayStand}
use Rattle.protocol.specs.Limit.{Progress, limited_run}
use Rattle.protocol.specs.Limit.Progress.{Live, Ended}
use Rattle.protocol.specs.World.{first_world}
use Rattle.protocol_laws.specs.Growth.{CountsHold}
use Rattle.protocol_laws.specs.Promises.{world_of}
use Rattle.protocol_laws.proofs.RunsOn.{run-counted}
use Rattle.world.specs.WorldState.{WorldState, events_of}
use Rattle.world.specs.declared.limits.TheConstants.{MAX_EVENTS}
use Rattle.generator.specs.Courses.{CourseState, HasRoom, first_course}
use Rattle.generated_runs.specs.Setup.{setup}
use Rattle.generated_runs.specs.Runs.{generated, events_until, next, next_event, serial_step, is_read, is_live, with_answer, KeepsWithin}
use Rattle.generated_runs.proofs.Events.{run_is}
use Rattle.generated_runs.proofs.Fitting.{is_ready, has_room}
use Rattle.generated_runs.proofs.Queued.{always_sent}
use Rattle.workload.specs.declared.stops.GenStop.{GenStop}
use Rattle.workload.specs.Standing.{StandsAt, WorldStandsAt, StopsBehind}
use Rattle.workload.specs.Stops.{StopsAt}

pub sent_before : (seed count place : ℕ) (course : CourseState) (world : WorldState) → StandsAt seed count place course world → 0 < length course.queue → 0 < length (world_of world.progress).messages
sent_before seed count place course world s =
    subst (λ (p : Progress). 0 < length course.queue → 0 < length (world_of p).messages) (sym s.world_is.run_is)
    (subst (λ (c : CourseState). 0 < length c.queue → 0 < length (world_of (generated seed count place).progress).messages) (sym s.course_is) (always_sent seed count place))

pub room_before : (seed count place : ℕ) (course : CourseState) (world : WorldState) → place < count → count ≤ 50000 → StandsAt seed count place course world → HasRoom course.transfer
room_before seed count place course world less most s =
    subst (λ (c : CourseState). HasRoom c.transfer) (sym s.course_is)
    (has_room place (generated seed count place).course.transfer (omega (arith, less, most)) (is_ready seed count place (omega (arith, less, most)) s.world_is.within).up_to)

pub next_stands : (seed count place : ℕ) → place < count → count ≤ 50000 → KeepsWithin seed count place → MayStand setup (next_event count (suc place) (generated seed count place))
next_stands seed count place less most within = (is_ready seed count place (omega (arith, less, most)) within).next

length_until : (seed count place : ℕ) → length (events_until seed count place) ≡ place
unfolding events_until
length_until seed count zero = refl
length_until seed count (suc place) =
    let before : length (events_until seed count place) ≡ place = length_until seed count place in
    let more : length (events_until seed count place ++ next_event count (suc place) (generated seed count place) ∷ []) ≡ length (events_until seed count place) + 1 =
    length-append (events_until seed count place) (next_event count (suc place) (generated seed count place) ∷ []) in
    omega (arith, before, more)

-- a run that goes on has taken its events
counted : (events : List Event) (p : Progress) → limited_run serial setup events ≡ p → is_live p ≡ true → events_of p ≡ length events
counted events (Live w count bytes) is live = let c : CountsHold events (Live w count bytes) = subst (CountsHold events) is (run-counted serial setup events) in c.counted
counted events (Ended w count bytes) is live = absurd (cc live)

pub events_are : (seed count place : ℕ) → KeepsWithin seed count place → events_of (generated seed count place).progress ≡ place
events_are seed count place within =
    counted (events_until seed count place) (generated seed count place).progress (sym (run_is seed count place)) within ∙ length_until seed count place

pub few_before : (seed count place : ℕ) (world : WorldState) → place < count → count ≤ 50000 → WorldStandsAt seed count place world → events_of world.progress < MAX_EVENTS
few_before seed count place world less most s =
    let are : events_of (generated seed count place).progress ≡ place = events_are seed count place s.within in
    subst (λ (p : Progress). events_of p < MAX_EVENTS) (sym s.run_is) (omega (arith, are, less, most))

-- before the first event
pub stands_first : (seed count : ℕ) (course : CourseState) (world : WorldState) → course ≡ first_course seed → world ≡ record { setup = setup; progress = Live (first_world setup) 0 0; spent = false }
    → StandsAt seed count zero course world
unfolding generated
stands_first seed count course world c w = record {
  course_is = c;
  world_is = record { run_is = ap (λ (x : WorldState). x.progress) w; setup_is = ap (λ (x : WorldState). x.setup) w; lives = ap (λ (x : WorldState). x.spent) w; within = refl };
}

-- ---- one event more

pub stands_on : (seed count place : ℕ) (old new : WorldState) (event : Event) (reads : Bool) (chosen after : CourseState)
    → old.progress ≡ (generated seed count place).progress → event ≡ next_event count (suc place) (generated seed count place)
    → reads ≡ is_read (next count (suc place) (generated seed count place)).doing → chosen ≡ (next count (suc place) (generated seed count place)).course
    → after ≡ with_answer (length (world_of old.progress).messages) reads (serial_step old.progress event).answer chosen
    → new.progress ≡ (serial_step old.progress event).after → new.setup ≡ setup → new.spent ≡ false → is_live new.progress ≡ true
    → StandsAt seed count (suc place) after new
unfolding generated
stands_on seed count place old new event reads chosen after run is read next_is course progress setup_is lives live = record {
  course_is = course ∙ rw (run, is, read, next_is) refl;
  world_is = record {
    run_is = now;
    setup_is = setup_is;
    lives = lives;
    within = subst (λ (p : Progress). is_live p ≡ true) now live;
  };
} where
  now : new.progress ≡ (generated seed count (suc place)).progress
  now = progress ∙ rw (run, is) refl

-- the same of a call that may have stopped
pub stands_where : {X E : Type 0} (result : Result X E) (seed count place : ℕ) (old new : WorldState) (event : Event) (reads : Bool) (chosen after : CourseState)
    → old.progress ≡ (generated seed count place).progress → event ≡ next_event count (suc place) (generated seed count place)
    → reads ≡ is_read (next count (suc place) (generated seed count place)).doing → chosen ≡ (next count (suc place) (generated seed count place)).course
    → OnOk result (after ≡ with_answer (length (world_of old.progress).messages) reads (serial_step old.progress event).answer chosen)
    → OnOk result (new.progress ≡ (serial_step old.progress event).after) → OnOk result (new.setup ≡ setup) → OnOk result (new.spent ≡ false) → OnOk result (is_live new.progress ≡ true)
    → OnOk result (StandsAt seed count (suc place) after new)
stands_where (Ok x) seed count place old new event reads chosen after run is read next_is course progress setup_is lives live =
    stands_on seed count place old new event reads chosen after run is read next_is course progress setup_is lives live
stands_where (Err e) seed count place old new event reads chosen after run is read next_is course progress setup_is lives live = tt

pub stops_behind : (seed count place : ℕ) (p : Progress) (event : Event) (stop : GenStop) → p ≡ (generated seed count place).progress → event ≡ next_event count (suc place) (generated seed count place)
    → StopsAt (serial_step p event).answer stop → StopsBehind seed count place stop
stops_behind seed count place p event stop run is at =
    subst (λ (e : Event). StopsAt (serial_step (generated seed count place).progress e).answer stop) is (subst (λ (q : Progress). StopsAt (serial_step q event).answer stop) run at)
