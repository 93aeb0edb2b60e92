-- The header of a schedule: where a replay stands in it, and behind its line `events`.
use Rattle.std.proofs.Common.{◌≡◌, inl, ℕ, ◌+◌, ◌<◌, ◌≤◌, List, [], ◌∷◌, ◌++◌, length, Option, Some, Result, Ok, Err, refl, sym, ◌∙◌, ap, subst, arith}
use Rattle.std.proofs.lemmas.List.{append-nil}
use Rattle.tcs_io.specs.Bytes.{HoldsFront}
use Rattle.tcs_terms.specs.declared.inputs.Event.{Event}
use Rattle.tcs_terms.specs.declared.limits.TheConstants.{MAX_NODES, MAX_SHARDS}
use Rattle.tcs_terms.specs.Runs.{AreEventsOf}
use Rattle.tcs_terms.specs.Setups.{Deployment}
use Rattle.tcs_laws.specs.Certification.{Tests}
use Rattle.trace_text.specs.Lines.{HeadLine, printed}
use Rattle.schedule_text.specs.declared.limits.TheConstants.{EVENT_LIMIT}
use Rattle.schedule_text.specs.declared.places.Place.{Place}
use Rattle.schedule_text.specs.declared.places.Place.TheVariants as places
use Rattle.schedule_text.specs.declared.reader.LineItem.{LineItem}
use Rattle.schedule_text.specs.declared.reader.LineItem.TheVariants as items
use Rattle.schedule_text.specs.Bytes.{events_on, setups_on}
use Rattle.schedule_text.specs.Schedules.{at_start}
use Rattle.schedule_text.proofs.BytesRead.{known, none_taken, setups_by, events_append, setups_append}
use Rattle.protocol.specs.Limit.{Progress as Run}
use Rattle.protocol.specs.Limit.Progress.{Live}
use Rattle.protocol.specs.World.{first_world}
use Rattle.replay_core.specs.declared.reading.Reading.{Reading}
use Rattle.replay_core.specs.declared.stops.ReplayStop.{ReplayStop}
use Rattle.replay_core.specs.declared.stops.ReplayStop.TheVariants as stops
use Rattle.replay_core.specs.Trace.{tests_of, run_of, is_live, happenings, trace_front}
use Rattle.replay_core.specs.Replays.{KeptBy, KeptOn, Stopped, StopsWithin, front_of, shown, Ends}
use Rattle.replay_core.specs.Standing.{Takes, Refuses, Standing, HasRead, InHand, InHeader, Begun, StopsInHeader, RunsAt, StandsBegun, IsAt}
use Rattle.replay_core.proofs.Places.{last, no_event_first, no_end_first, begun_place}
use Rattle.replay_core.proofs.Promised.{kept, are_events}
use Rattle.replay_core.proofs.Taking.{TakesWhole, takes_whole, stands_on, reads_on, in_hand, stops_at, few_taken, first_standing, first_read}
use Rattle.replay_core.proofs.TraceLemmas.{run_is}
use Rattle.replay_core.proofs.Working.{kept_is, within_nothing, ends_writing}

-- ---- in the header

not_ended_by : (place : Place) (d : Deployment) → setups_by place d ≡ [] → place ≡ places.Ended → ⊥
not_ended_by places.Version d none e = absurd cc
not_ended_by places.Certifier d none e = absurd cc
not_ended_by places.Shards d none e = absurd cc
not_ended_by places.Parts d none e = absurd cc
not_ended_by places.Events d none e = absurd cc
not_ended_by places.Ended d none e = absurd (omega (arith, ap length none))

pub not_ended : (r : Reading) (left left' : Option (List ℕ)) → InHeader r left left' → r.reader.head.place ≡ places.Ended → ⊥
not_ended r left left' h e =
    let k = known h.standing.lines h.items r.reader h.standing.read in
    not_ended_by r.reader.head.place r.reader.head.setup (sym k.setups ∙ h.none) e

pub first_header : (r : Reading) (left : Option (List ℕ)) → r.lines ≡ [] → r.reader ≡ at_start → r.number ≡ 0 → InHeader r left left
first_header r left none start zero = record {
  items = [];
  standing = first_standing r none start zero;
  none = refl;
  idle = refl;
  read = λ bytes told. first_read bytes r left none start zero told;
}

pub whole_of : (old new : Reading) (item : LineItem) (first left left' : Option (List ℕ)) → InHeader old first left → Takes old new item left left' → TakesWhole old new item left left'
whole_of old new item first left left' h t = takes_whole old new item left left' (not_ended old first left h) t

pub header_on : (old new : Reading) (first left left' : Option (List ℕ)) → InHeader old first left → Takes old new items.Header left left' → InHeader new first left'
header_on old new first left left' h t =
    let w = whole_of old new items.Header first left left' h t in
    record {
      items = h.items ++ items.Header ∷ [];
      standing = stands_on old new h.items items.Header left left' h.standing w;
      none = setups_append h.items (items.Header ∷ []) ∙ append-nil (setups_on h.items) ∙ h.none;
      idle = events_append h.items (items.Header ∷ []) ∙ append-nil (events_on h.items) ∙ h.idle;
      read = λ bytes told. reads_on bytes old new h.items items.Header left left' (h.read bytes told) w;
    }

pub header_fewer : (old new : Reading) (item : LineItem) (first left left' : Option (List ℕ)) → InHeader old first left → Takes old new item left left' → old.number < 5 + MAX_NODES + MAX_SHARDS + EVENT_LIMIT
header_fewer old new item first left left' h t =
    let w = whole_of old new item first left left' h t in
    omega (arith, w.one_more, few_taken new (h.items ++ item ∷ []) (stands_on old new h.items item left left' h.standing w))

pub header_begun : (old new : Reading) (d : Deployment) (first left left' : Option (List ℕ)) → InHeader old first left → Takes old new (items.Begun d) left left' → Begun new first left' d
header_begun old new d first left left' h t =
    let w = whole_of old new (items.Begun d) first left left' h t in
    let s = stands_on old new h.items (items.Begun d) left left' h.standing w in
    let l = last s.lines h.items (items.Begun d) new.reader s.read in
    let at = begun_place new.reader.head.place new.reader.head.setup d (setups_on h.items) h.none l.ends l.setups in
    record {
      items = h.items;
      standing = s;
      place = at.0;
      setup = sym at.1;
      none = h.none;
      idle = h.idle;
      read = λ bytes told.
          (reads_on bytes old new h.items (items.Begun d) left left' (h.read bytes told) w, in_hand bytes old new h.items (items.Begun d) left left' (h.read bytes told) w);
    }

pub header_no_event : (old new : Reading) (e : Event) (first left left' : Option (List ℕ)) → InHeader old first left → Takes old new (items.Event e) left left' → ⊥
header_no_event old new e first left left' h t =
    let w = whole_of old new (items.Event e) first left left' h t in
    let s = stands_on old new h.items (items.Event e) left left' h.standing w in
    let l = last s.lines h.items (items.Event e) new.reader s.read in
    no_event_first new.reader.head.place new.reader.head.setup (setups_on h.items) e h.none l.ends l.setups

pub header_no_end : (old new : Reading) (first left left' : Option (List ℕ)) → InHeader old first left → Takes old new items.End left left' → ⊥
header_no_end old new first left left' h t =
    let w = whole_of old new items.End first left left' h t in
    let s = stands_on old new h.items items.End left left' h.standing w in
    let l = last s.lines h.items items.End new.reader s.read in
    no_end_first new.reader.head.place new.reader.head.setup (setups_on h.items) h.none l.ends l.setups

-- nothing is shown yet
shows_none : (is : List LineItem) → setups_on is ≡ [] → shown is ≡ []
shows_none is none = ap (λ (ds : List Deployment). front_of ds (events_on is)) none

kept_none : (is : List LineItem) → setups_on is ≡ [] → KeptOn is
kept_none is none = subst (λ (ds : List Deployment). KeptBy ds (events_on is)) (sym none) tt

pub header_stops : (old : Reading) (first left left' : Option (List ℕ)) (stop : ReplayStop) → InHeader old first left → Refuses old left left' stop → StopsInHeader first left' stop
header_stops old first left left' stop h x = λ bytes told.
    let at = stops_at bytes old left left' h.items stop (h.read bytes told) (kept_none h.items h.none) x in
    (at.rest, at.told, subst (λ (t : List ℕ). Stopped bytes at.rest t stop) (shows_none h.items h.none) at.stopped)

pub err_same : {X : Type 0} (e f : ReplayStop) → ◌≡◌ {A = Result X ReplayStop} (Err e) (Err f) → e ≡ f
err_same e f h = cc

-- nothing was to be written
pub header_unwritten : {X : Type 0} (old : Reading) (left left' : Option (List ℕ)) (stop : ReplayStop) → Refuses old left left' stop → ◌≡◌ {A = Result X ReplayStop} (Err stop) (Err stops.WriteFault) → ⊥
header_unwritten old left left' (stops.Bad number reason) x told = absurd cc
header_unwritten old left left' stops.ReadFault x told = absurd cc
header_unwritten old left left' stops.WriteFault x told = x
header_unwritten old left left' (stops.Full sum) x told = absurd cc
header_unwritten old left left' stops.OutOfMemory x told = absurd cc

-- a stop in the header, with what the sink holds
pub ends_header : (bytes before : List ℕ) (first left held : Option (List ℕ)) (stop : ReplayStop) → StopsInHeader first left stop → first ≡ Some bytes → held ≡ Some before → Ends bytes before left held stop
ends_header bytes before first left held stop x told holds =
    let at = x bytes told in
    record { rest = at.0; told = at.1; written = []; holds = holds ∙ ap (λ (b : List ℕ). Some b) (sym (append-nil before)); stopped = at.2 }

-- ---- behind the line `events`

-- the first line of the trace belongs to it
pub shown_begun : (is : List LineItem) (d : Deployment) → setups_on is ≡ [] → events_on is ≡ [] → shown (is ++ items.Begun d ∷ []) ≡ shown is ++ printed (HeadLine d.version d.rule d.shards)
unfolding happenings
shown_begun is d none idle =
    ap (λ (ds : List Deployment). front_of ds (events_on (is ++ items.Begun d ∷ []))) (setups_append is (items.Begun d ∷ []) ∙ ap (λ (ds : List Deployment). ds ++ d ∷ []) none)
    ∙ ap (trace_front d) (events_append is (items.Begun d ∷ []) ∙ append-nil (events_on is) ∙ idle)
    ∙ append-nil (printed (HeadLine d.version d.rule d.shards))
    ∙ ap (λ (t : List ℕ). t ++ printed (HeadLine d.version d.rule d.shards)) (sym (shows_none is none))

kept_begun : (r : Reading) (first left : Option (List ℕ)) (d : Deployment) → (b : Begun r first left d) → KeptOn (b.items ++ items.Begun d ∷ [])
kept_begun r first left d b =
    let is = b.items ++ items.Begun d ∷ [] in
    let setups : setups_on is ≡ d ∷ [] = setups_append b.items (items.Begun d ∷ []) ∙ ap (λ (ds : List Deployment). ds ++ d ∷ []) b.none in
    let events : events_on is ≡ [] = events_append b.items (items.Begun d ∷ []) ∙ append-nil (events_on b.items) ∙ b.idle in
    let a : AreEventsOf d (events_on is) =
    subst (λ (f : Deployment). AreEventsOf f (events_on is)) (sym b.setup) (are_events r is b.standing (setups ∙ ap (λ (f : Deployment). f ∷ []) b.setup)) in
    kept_is is d setups (kept d (events_on is) a (ap (λ (es : List Event). is_live (run_of d es)) events ∙ ap is_live (run_is d [])))

-- a run that has just begun
pub begun_run : (tests : Tests) (r : Reading) (first left : Option (List ℕ)) (d setup : Deployment) (p : Run) → tests ≡ tests_of d.rule → setup ≡ d → p ≡ Live (first_world d) 0 0 → (b : Begun r first left d)
    → StandsBegun tests places.Events r setup p (b.items ++ items.Begun d ∷ [])
begun_run tests r first left d setup p certifier of so_far b =
    let setups : setups_on (b.items ++ items.Begun d ∷ []) ≡ d ∷ [] = setups_append b.items (items.Begun d ∷ []) ∙ ap (λ (ds : List Deployment). ds ++ d ∷ []) b.none in
    let events : events_on (b.items ++ items.Begun d ∷ []) ≡ [] = events_append b.items (items.Begun d ∷ []) ∙ append-nil (events_on b.items) ∙ b.idle in
    record {
      standing = b.standing;
      place = b.place;
      begun = setups ∙ ap (λ (f : Deployment). f ∷ []) b.setup;
      runs = subst (λ (f : Deployment). RunsAt tests setup p f (events_on (b.items ++ items.Begun d ∷ []))) b.setup (subst (RunsAt tests setup p d) (sym events) (record {
        certifier = certifier;
        of = of;
        so_far = so_far ∙ sym (run_is d []);
        within = ap is_live (run_is d []);
      }));
    }

pub begun_at : (bytes before text : List ℕ) (r : Reading) (first left held held' : Option (List ℕ)) (d : Deployment) → (b : Begun r first left d) → first ≡ Some bytes → held ≡ Some before
    → text ≡ printed (HeadLine d.version d.rule d.shards) → ((x : List ℕ) → held ≡ Some x → held' ≡ Some (x ++ text)) → IsAt bytes before r left held' (b.items ++ items.Begun d ∷ [])
begun_at bytes before text r first left held held' d b told holds is wrote = record {
  read = (b.read bytes told).0;
  holds = wrote before holds
      ∙ ap (λ (t : List ℕ). Some (before ++ t)) (is ∙ ap (λ (t : List ℕ). t ++ printed (HeadLine d.version d.rule d.shards)) (sym (shows_none b.items b.none)) ∙ sym (shown_begun b.items d b.none b.idle));
}

-- memory ran out while the world was made, or the first line of the trace was put together
pub ends_begun : (bytes before : List ℕ) (r : Reading) (first left held : Option (List ℕ)) (d : Deployment) → Begun r first left d → first ≡ Some bytes → held ≡ Some before
    → Ends bytes before left held stops.OutOfMemory
ends_begun bytes before r first left held d b told holds =
    let h = (b.read bytes told).1 in
    record {
      rest = h.rest;
      told = h.told;
      written = shown b.items;
      holds = holds ∙ ap (λ (t : List ℕ). Some t) (sym (append-nil before)) ∙ ap (λ (t : List ℕ). Some (before ++ t)) (sym (shows_none b.items b.none));
      stopped = within_nothing bytes h.rest b.items h.progress h.behind h.worked (kept_none b.items b.none);
    }

-- the first line of the trace was written in part
pub ends_head : (bytes before text : List ℕ) (r : Reading) (first left held held' : Option (List ℕ)) (d : Deployment) (stop : ReplayStop) → Begun r first left d → first ≡ Some bytes → held ≡ Some before
    → text ≡ printed (HeadLine d.version d.rule d.shards) → ((x : List ℕ) → held ≡ Some x → HoldsFront x text held') → ((l w : List ℕ) → StopsWithin bytes l w → Stopped bytes l w stop)
    → Ends bytes before left held' stop
ends_head bytes before text r first left held held' d stop b told holds is front as_stop =
    ends_writing bytes before left held held' b.items (items.Begun d) text stop
    (holds ∙ ap (λ (t : List ℕ). Some t) (sym (append-nil before)) ∙ ap (λ (t : List ℕ). Some (before ++ t)) (sym (shows_none b.items b.none)))
    (kept_none b.items b.none) (kept_begun r first left d b) (shown_begun b.items d b.none b.idle ∙ ap (λ (t : List ℕ). shown b.items ++ t) (sym is)) (b.read bytes told).1 front as_stop

-- memory ran out before the first line was read
pub ends_unbegun : (bytes before : List ℕ) (left held : Option (List ℕ)) → left ≡ Some bytes → held ≡ Some before → Ends bytes before left held stops.OutOfMemory
ends_unbegun bytes before left held told holds = record {
  rest = bytes;
  told = told;
  written = [];
  holds = holds ∙ ap (λ (b : List ℕ). Some b) (sym (append-nil before));
  stopped = within_nothing bytes bytes [] at_start bytes (record { lines = []; taken = none_taken bytes; ahead = []; read = refl; few = omega arith }) tt;
}
