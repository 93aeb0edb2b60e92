-- From event to event: what the turns of a replay keep.
use Rattle.std.proofs.Common.{◌≡◌, inl, inr, ℕ, ◌+◌, ◌<◌, ◌≤◌, false, true, List, [], ◌∷◌, ◌++◌, length, Option, Some, refl, sym, ◌∙◌, ap, subst, length-append, arith}
use Rattle.tcs_io.specs.Bytes.{HoldsFront}
use Rattle.tcs_io.specs.declared.writing.SinkStop.{SinkStop}
use Rattle.tcs_io.specs.declared.writing.SinkStop.TheVariants as sinks
use Rattle.tcs_terms.specs.declared.inputs.Event.{Event}
use Rattle.tcs_terms.specs.declared.limits.TheConstants.{MAX_NODES, MAX_SHARDS}
use Rattle.tcs_terms.specs.Setups.{Deployment}
use Rattle.tcs_laws.specs.Certification.{Tests}
use Rattle.schedule_text.specs.declared.limits.TheConstants.{EVENT_LIMIT}
use Rattle.schedule_text.specs.declared.places.Place.{Place}
use Rattle.schedule_text.specs.declared.places.Place.TheVariants as places
use Rattle.schedule_text.specs.declared.reader.LineItem.{LineItem}
use Rattle.schedule_text.specs.declared.reader.LineItem.TheVariants as items
use Rattle.schedule_text.specs.Bytes.{events_on, setups_on}
use Rattle.tcs_terms.specs.Runs.{MayStand}
use Rattle.schedule_text.proofs.BytesRead.{known, events_append}
use Rattle.schedule_text.proofs.ScheduleReadings.{EventsStand}
use Rattle.protocol.specs.Limit.{Progress as Run}
use Rattle.protocol.specs.Limit.Progress.{Live, Ended}
use Rattle.replay_core.specs.declared.reading.Reading.{Reading}
use Rattle.replay_core.specs.declared.stops.ReplayStop.{ReplayStop}
use Rattle.world.specs.WorldState.{events_of}
use Rattle.replay_core.specs.Steps.{stop_of_sink}
use Rattle.replay_core.specs.Trace.{run_of, is_live}
use Rattle.replay_core.specs.Replays.{Stopped, StopsWithin, Ends}
use Rattle.replay_core.specs.Standing.{Takes, Refuses, Standing, RunsAt, Stepped, StopsStepping, StandsBegun, IsAt, GoesOn}
use Rattle.replay_core.proofs.Finishing.{stands_ended, is_at_ended}
use Rattle.replay_core.proofs.Places.{last, no_header_later, no_second_setup}
use Rattle.replay_core.proofs.Taking.{TakesWhole, takes_whole, stands_on, in_hand, stops_at, few_taken}
use Rattle.replay_core.proofs.TraceLemmas.{CountedIn, counted}
use Rattle.replay_core.proofs.Working.{kept_of, takes_event, stands_stepped, is_at_stepped, ends_at, ends_stepping, ends_writing, shown_more}

-- a failed write is one of two stops, and both say the same
pub sink_stops : (bytes : List ℕ) (stop : SinkStop) (l w : List ℕ) → StopsWithin bytes l w → Stopped bytes l w (stop_of_sink stop)
sink_stops bytes sinks.Failed l w x = x
sink_stops bytes sinks.OutOfMemory l w x = x

-- ---- a line behind the line `events`

not_ended : (place : Place) → place ≡ places.Events → place ≡ places.Ended → ⊥
not_ended place e f = differ (sym e ∙ f) where
  differ : places.Events ≡ places.Ended → ⊥
  differ x = absurd cc

pub whole_line : (tests : Tests) (old new : Reading) (setup : Deployment) (p : Run) (is : List LineItem) (item : LineItem) (left left' : Option (List ℕ)) → StandsBegun tests places.Events old setup p is
    → Takes old new item left left' → TakesWhole old new item left left'
whole_line tests old new setup p is item left left' s t = takes_whole old new item left left' (not_ended old.reader.head.place s.place) t

pub new_standing : (tests : Tests) (old new : Reading) (setup : Deployment) (p : Run) (is : List LineItem) (item : LineItem) (left left' : Option (List ℕ)) → StandsBegun tests places.Events old setup p is
    → Takes old new item left left' → Standing new (is ++ item ∷ [])
new_standing tests old new setup p is item left left' s t = stands_on old new is item left left' s.standing (whole_line tests old new setup p is item left left' s t)

pub fewer : (tests : Tests) (old new : Reading) (setup : Deployment) (p : Run) (is : List LineItem) (item : LineItem) (left left' : Option (List ℕ)) → StandsBegun tests places.Events old setup p is
    → Takes old new item left left' → old.number < 5 + MAX_NODES + MAX_SHARDS + EVENT_LIMIT
fewer tests old new setup p is item left left' s t = omega (arith, t.one_more, few_taken new (is ++ item ∷ []) (new_standing tests old new setup p is item left left' s t))

pub no_header : (tests : Tests) (old new : Reading) (setup : Deployment) (p : Run) (is : List LineItem) (left left' : Option (List ℕ)) → StandsBegun tests places.Events old setup p is
    → Takes old new items.Header left left' → ⊥
no_header tests old new setup p is left left' s t =
    let n = new_standing tests old new setup p is items.Header left left' s t in
    let l = last n.lines is items.Header new.reader n.read in
    no_header_later new.reader.head.place new.reader.head.setup old.reader.head.setup (setups_on is) s.begun l.ends l.setups

pub no_setup : (tests : Tests) (old new : Reading) (setup : Deployment) (p : Run) (is : List LineItem) (d : Deployment) (left left' : Option (List ℕ)) → StandsBegun tests places.Events old setup p is
    → Takes old new (items.Begun d) left left' → ⊥
no_setup tests old new setup p is d left left' s t =
    let n = new_standing tests old new setup p is (items.Begun d) left left' s t in
    let l = last n.lines is (items.Begun d) new.reader n.read in
    no_second_setup new.reader.head.place new.reader.head.setup old.reader.head.setup d (setups_on is) s.begun l.setups

-- ---- its event

pub may : (tests : Tests) (old new : Reading) (setup : Deployment) (p : Run) (is : List LineItem) (e : Event) (left left' : Option (List ℕ)) → StandsBegun tests places.Events old setup p is
    → Takes old new (items.Event e) left left' → MayStand setup e
may tests old new setup p is e left left' s t =
    subst (λ (d : Deployment). MayStand d e) (sym s.runs.of) (takes_event tests old new setup p is e s (new_standing tests old new setup p is (items.Event e) left left' s t)).may

few_by : (place : Place) (d : Deployment) (count : ℕ) (es : List Event) → EventsStand place d count es → length es ≤ EVENT_LIMIT
few_by places.Version d count es h = omega (arith, ap length h.0)
few_by places.Certifier d count es h = omega (arith, ap length h.0)
few_by places.Shards d count es h = omega (arith, ap length h.0)
few_by places.Parts d count es h = omega (arith, ap length h.0)
few_by places.Events d count es h = h.2
few_by places.Ended d count es h = h.2

counted_by : (d : Deployment) (es : List Event) (p : Run) → CountedIn d es p → is_live p ≡ true → events_of p ≡ length es
counted_by d es (Live w count bytes) c live = c.events
counted_by d es (Ended w count bytes) c live = absurd cc

pub few : (tests : Tests) (old new : Reading) (setup : Deployment) (p : Run) (is : List LineItem) (e : Event) (left left' : Option (List ℕ)) → StandsBegun tests places.Events old setup p is
    → Takes old new (items.Event e) left left' → events_of p < EVENT_LIMIT
few tests old new setup p is e left left' s t =
    let n = new_standing tests old new setup p is (items.Event e) left left' s t in
    let k = known n.lines (is ++ items.Event e ∷ []) new.reader n.read in
    let most = few_by new.reader.head.place new.reader.head.setup new.reader.count (events_on (is ++ items.Event e ∷ [])) k.stands.events in
    let d = old.reader.head.setup in
    let now : events_of p ≡ length (events_on is) = ap events_of s.runs.so_far ∙ counted_by d (events_on is) (run_of d (events_on is)) (counted d (events_on is)) s.runs.within in
    omega (arith, now, most, ap length (events_append is (items.Event e ∷ [])), length-append (events_on is) (e ∷ []))

-- ---- turns

pub goes_at_first : (tests : Tests) (r : Reading) (setup : Deployment) (p : Run) (left held : Option (List ℕ)) (is : List LineItem) → StandsBegun tests places.Events r setup p is
    → GoesOn tests r left held is r setup p left held
goes_at_first tests r setup p left held is s = record { items = is; stands = s; at = λ bytes before at. at }

pub goes_on : (tests : Tests) (first old new : Reading) (setup setup' : Deployment) (p p' : Run) (left0 held0 left held left' held' : Option (List ℕ)) (is : List LineItem) (e : Event) (text : List ℕ)
    → (g : GoesOn tests first left0 held0 is old setup p left held) → Takes old new (items.Event e) left left'
    → Stepped old.reader.head.setup (events_on g.items) e text × RunsAt tests setup' p' old.reader.head.setup (events_on g.items ++ e ∷ [])
    → ((b : List ℕ) → held ≡ Some b → held' ≡ Some (b ++ text)) → GoesOn tests first left0 held0 is new setup' p' left' held'
goes_on tests first old new setup setup' p p' left0 held0 left held left' held' is e text g t r wrote =
    let n = new_standing tests old new setup p g.items (items.Event e) left left' g.stands t in
    let w = whole_line tests old new setup p g.items (items.Event e) left left' g.stands t in
    record {
      items = g.items ++ items.Event e ∷ [];
      stands = stands_stepped tests old new setup setup' p p' g.items e g.stands n r.1;
      at = λ bytes before at. is_at_stepped bytes before old new old.reader.head.setup left held left' held' g.items e text (g.at bytes before at) w g.stands.begun r.0 wrote;
    }

-- ---- stops

pub stops_taking : (bytes before : List ℕ) (tests : Tests) (here : Place) (old : Reading) (setup : Deployment) (p : Run) (is : List LineItem) (left held left' : Option (List ℕ)) (stop : ReplayStop)
    → StandsBegun tests here old setup p is → IsAt bytes before old left held is → Refuses old left left' stop → Ends bytes before left' held stop
stops_taking bytes before tests here old setup p is left held left' stop s at x =
    ends_at bytes before left' held is stop at.holds (stops_at bytes old left left' is stop at.read (kept_of tests here old setup p is s) x)

pub stops_stepping : (bytes before : List ℕ) (tests : Tests) (old new : Reading) (setup : Deployment) (p : Run) (is : List LineItem) (e : Event) (left held left' : Option (List ℕ)) (stop : ReplayStop)
    → StandsBegun tests places.Events old setup p is → IsAt bytes before old left held is → Takes old new (items.Event e) left left' → StopsStepping old.reader.head.setup (events_on is) e stop
    → Ends bytes before left' held stop
stops_stepping bytes before tests old new setup p is e left held left' stop s at t x =
    let w = whole_line tests old new setup p is (items.Event e) left left' s t in
    ends_stepping bytes before left' held old.reader.head.setup is e stop at.holds (kept_of tests places.Events old setup p is s) s.begun
    (in_hand bytes old new is (items.Event e) left left' at.read w) x

pub stops_writing : (bytes before : List ℕ) (tests : Tests) (old new : Reading) (setup setup' : Deployment) (p p' : Run) (is : List LineItem) (e : Event) (text : List ℕ) (left held left' held' : Option (List ℕ)) (stop : ReplayStop)
    → StandsBegun tests places.Events old setup p is → IsAt bytes before old left held is → Takes old new (items.Event e) left left'
    → Stepped old.reader.head.setup (events_on is) e text × RunsAt tests setup' p' old.reader.head.setup (events_on is ++ e ∷ [])
    → ((b : List ℕ) → held ≡ Some b → HoldsFront b text held') → ((l w : List ℕ) → StopsWithin bytes l w → Stopped bytes l w stop) → Ends bytes before left' held' stop
stops_writing bytes before tests old new setup setup' p p' is e text left held left' held' stop s at t r front as_stop =
    let n = new_standing tests old new setup p is (items.Event e) left left' s t in
    let w = whole_line tests old new setup p is (items.Event e) left left' s t in
    let next = stands_stepped tests old new setup setup' p p' is e s n r.1 in
    ends_writing bytes before left' held held' is (items.Event e) text stop at.holds (kept_of tests places.Events old setup p is s)
    (kept_of tests places.Events new setup' p' (is ++ items.Event e ∷ []) next) (shown_more is e old.reader.head.setup text s.begun r.0)
    (in_hand bytes old new is (items.Event e) left left' at.read w) front as_stop

-- ---- the line `end`

pub ended : (tests : Tests) (old new : Reading) (setup : Deployment) (p : Run) (is : List LineItem) (left left' : Option (List ℕ)) → StandsBegun tests places.Events old setup p is
    → Takes old new items.End left left' → StandsBegun tests places.Ended new setup p (is ++ items.End ∷ [])
ended tests old new setup p is left left' s t = stands_ended tests old new setup p is s (new_standing tests old new setup p is items.End left left' s t)

pub at_ended : (bytes before : List ℕ) (tests : Tests) (old new : Reading) (setup : Deployment) (p : Run) (is : List LineItem) (left held left' : Option (List ℕ)) → StandsBegun tests places.Events old setup p is
    → IsAt bytes before old left held is → Takes old new items.End left left' → IsAt bytes before new left' held (is ++ items.End ∷ [])
at_ended bytes before tests old new setup p is left held left' s at t =
    is_at_ended bytes before old new old.reader.head.setup left held left' is at (whole_line tests old new setup p is items.End left left' s t) s.begun
