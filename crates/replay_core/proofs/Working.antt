-- The line in work: its event is stepped and its text written, or that stops.
use Rattle.std.proofs.Common.{◌≡◌, ◌⊎◌, inl, inr, ℕ, ◌+◌, ◌≤◌, true, List, [], ◌∷◌, ◌++◌, length, map, take, drop, fold, Option, Some, Ok, Err, refl, sym, ◌∙◌, ap, subst, append_assoc, length-append, arith}
use Rattle.std.specs.List.{flat_map, AllByRecursion}
use Rattle.std.proofs.lemmas.Grind.{flat_map-append}
use Rattle.std.proofs.lemmas.List.{append-nil, take-append-drop}
use Rattle.tcs_io.specs.Bytes.{HoldsFront}
use Rattle.tcs_terms.specs.declared.inputs.Event.{Event}
use Rattle.tcs_terms.specs.declared.inputs.Note.{Note}
use Rattle.tcs_terms.specs.declared.inputs.Result1.{Result1}
use Rattle.tcs_terms.specs.Runs.{MayStand}
use Rattle.tcs_terms.specs.Setups.{Deployment}
use Rattle.tcs_laws.specs.Certification.{Tests}
use Rattle.trace_text.specs.Lines.{Line, HeadLine, OrderLine, EndLine, printed}
use Rattle.trace_text.specs.Traces.{events_lines}
use Rattle.schedule_text.specs.declared.places.Place.TheVariants as places
use Rattle.schedule_text.specs.declared.reader.LineItem.{LineItem}
use Rattle.schedule_text.specs.declared.reader.LineItem.TheVariants as items
use Rattle.schedule_text.specs.Bytes.{IsText, events_on, setups_on}
use Rattle.schedule_text.specs.Schedules.{Progress, at_start}
use Rattle.schedule_text.specs.Whole.{reads}
use Rattle.schedule_text.proofs.BytesRead.{events_append, setups_append, events_stand}
use Rattle.schedule_text.proofs.FirstBadLines.{taken_to_the_end}
use Rattle.protocol.specs.Limit.{Progress as Run, Answer, limited_step}
use Rattle.protocol.specs.Limit.Progress.{Live, Ended}
use Rattle.protocol.specs.Limit.Answer.{Happens, SoupFull}
use Rattle.protocol.specs.World.{World}
use Rattle.protocol.specs.History.{order_of}
use Rattle.replay_core.specs.declared.reading.Reading.{Reading}
use Rattle.replay_core.specs.declared.stops.ReplayStop.{ReplayStop}
use Rattle.replay_core.specs.declared.stops.ReplayStop.TheVariants as stops
use Rattle.protocol_laws.specs.Promises.{world_of}
use Rattle.world.specs.WorldState.{events_of}
use Rattle.replay_core.specs.Trace.{tests_of, run_of, answer_to, is_live, run_trace, trace, trace_front}
use Rattle.replay_core.specs.Replays.{Kept, KeptBy, KeptOn, Replays, Stopped, StopsWithin, OfLine, OfTail, Worked, InWork, front_of, shown, Ends, Finishes}
use Rattle.replay_core.specs.Standing.{Standing, HasRead, InHand, RunsAt, Stepped, StopsStepping, StandsBegun, IsAt}
use Rattle.replay_core.proofs.Places.{Last, last, event_place, end_place, no_header_later, no_second_setup}
use Rattle.replay_core.proofs.Promised.{kept, are_events}
use Rattle.replay_core.proofs.Taking.{TakesWhole, StopsAt, stands_on, reads_on, in_hand}
use Rattle.replay_core.proofs.TraceLemmas.{Counted, CountedIn, counted, run_on}

-- ---- what is shown

-- once a setup is whole
pub shown_is : (is : List LineItem) (d : Deployment) → setups_on is ≡ d ∷ [] → shown is ≡ trace_front d (events_on is)
shown_is is d e = ap (λ (ds : List Deployment). front_of ds (events_on is)) e

pub kept_is : (is : List LineItem) (d : Deployment) → setups_on is ≡ d ∷ [] → Kept d (events_on is) → KeptOn is
kept_is is d e k = subst (λ (ds : List Deployment). KeptBy ds (events_on is)) (sym e) k

within_of : (is : List LineItem) (d : Deployment) → setups_on is ≡ d ∷ [] → KeptOn is → is_live (run_of d (events_on is)) ≡ true
within_of is d e k = (subst (λ (ds : List Deployment). KeptBy ds (events_on is)) e k).within

pub kept_of : (tests : Tests) (place : _) (r : Reading) (setup : Deployment) (p : Run) (is : List LineItem) → StandsBegun tests place r setup p is → KeptOn is
kept_of tests place r setup p is s =
    kept_is is r.reader.head.setup s.begun (kept r.reader.head.setup (events_on is) (are_events r is s.standing s.begun) s.runs.within)

-- with one event more
setups_more : (is : List LineItem) (e : Event) → setups_on (is ++ items.Event e ∷ []) ≡ setups_on is
setups_more is e = setups_append is (items.Event e ∷ []) ∙ append-nil (setups_on is)

events_more : (is : List LineItem) (e : Event) → events_on (is ++ items.Event e ∷ []) ≡ events_on is ++ e ∷ []
events_more is e = events_append is (items.Event e ∷ [])

pub shown_more : (is : List LineItem) (e : Event) (d : Deployment) (text : List ℕ) → setups_on is ≡ d ∷ [] → Stepped d (events_on is) e text → shown (is ++ items.Event e ∷ []) ≡ shown is ++ text
shown_more is e d text begun step =
    shown_is (is ++ items.Event e ∷ []) d (setups_more is e ∙ begun) ∙ ap (trace_front d) (events_more is e) ∙ step ∙ ap (λ (t : List ℕ). t ++ text) (sym (shown_is is d begun))

-- ---- a line of an event

all_last : {X : Type 0} (P : X → Type 0) (xs : List X) (x : X) → AllByRecursion P (xs ++ x ∷ []) → P x
all_last P [] x h = h.0
all_last P (y ∷ ys) x h = all_last P ys x h.1

-- the event may stand, and the reader stands behind it
pub record TakesEvent (new : Reading) (d : Deployment) (e : Event) : Type 0 where
  pub may : MayStand d e
  pub place : new.reader.head.place ≡ places.Events
  pub setup : new.reader.head.setup ≡ d

pub takes_event : (tests : Tests) (old new : Reading) (setup : Deployment) (p : Run) (is : List LineItem) (e : Event) → StandsBegun tests places.Events old setup p is
    → Standing new (is ++ items.Event e ∷ []) → TakesEvent new old.reader.head.setup e
takes_event tests old new setup p is e s t =
    let d = old.reader.head.setup in
    let l = last t.lines is (items.Event e) new.reader t.read in
    let at = event_place new.reader.head.place new.reader.head.setup d (setups_on is) e s.begun l.ends l.setups in
    let each = events_stand t.lines (is ++ items.Event e ∷ []) new.reader t.read in
    record {
      may = subst (λ (f : Deployment). MayStand f e) at.1 (all_last (MayStand new.reader.head.setup) (events_on is) e (subst (AllByRecursion (MayStand new.reader.head.setup)) (events_more is e) each));
      place = at.0;
      setup = at.1;
    }

-- it was stepped: the reader and the run stand behind it
pub stands_stepped : (tests : Tests) (old new : Reading) (setup setup' : Deployment) (p p' : Run) (is : List LineItem) (e : Event) → StandsBegun tests places.Events old setup p is
    → Standing new (is ++ items.Event e ∷ []) → RunsAt tests setup' p' old.reader.head.setup (events_on is ++ e ∷ [])
    → StandsBegun tests places.Events new setup' p' (is ++ items.Event e ∷ [])
stands_stepped tests old new setup setup' p p' is e s t r =
    let d = old.reader.head.setup in
    let at = takes_event tests old new setup p is e s t in
    record {
      standing = t;
      place = at.place;
      begun = setups_more is e ∙ s.begun ∙ ap (λ (f : Deployment). f ∷ []) (sym at.setup);
      runs = subst (λ (f : Deployment). RunsAt tests setup' p' f (events_on (is ++ items.Event e ∷ []))) (sym at.setup)
          (subst (RunsAt tests setup' p' d) (sym (events_more is e)) r);
    }

-- and its text was written
pub is_at_stepped : (bytes before : List ℕ) (old new : Reading) (d : Deployment) (left held left' held' : Option (List ℕ)) (is : List LineItem) (e : Event) (text : List ℕ)
    → IsAt bytes before old left held is → TakesWhole old new (items.Event e) left left' → setups_on is ≡ d ∷ [] → Stepped d (events_on is) e text
    → ((b : List ℕ) → held ≡ Some b → held' ≡ Some (b ++ text)) → IsAt bytes before new left' held' (is ++ items.Event e ∷ [])
is_at_stepped bytes before old new d left held left' held' is e text at t begun step wrote = record {
  read = reads_on bytes old new is (items.Event e) left left' at.read t;
  holds = wrote (before ++ shown is) at.holds ∙ ap (λ (b : List ℕ). Some b) (append_assoc before (shown is) text ∙ ap (λ (b : List ℕ). before ++ b) (sym (shown_more is e d text begun step)));
}

-- ---- stops

-- nothing of the line in work was written
pub ends_at : (bytes before : List ℕ) (left held : Option (List ℕ)) (is : List LineItem) (stop : ReplayStop) → held ≡ Some (before ++ shown is) → StopsAt bytes left is stop
    → Ends bytes before left held stop
ends_at bytes before left held is stop holds x = record { rest = x.rest; told = x.told; written = shown is; holds = holds; stopped = x.stopped }

pub within_nothing : (bytes : List ℕ) (left : List ℕ) (is : List LineItem) (p : Progress) (behind : List ℕ) → Worked bytes left is p behind → KeptOn is → StopsWithin bytes left (shown is)
within_nothing bytes left is p behind w kept = record {
  items = is;
  progress = p;
  behind = behind;
  worked = w;
  kept = kept;
  part = [];
  so_far = sym (append-nil (shown is));
  most = inl refl;
}

-- stepping the event stopped
pub ends_stepping : (bytes before : List ℕ) (left held : Option (List ℕ)) (d : Deployment) (is : List LineItem) (e : Event) (stop : ReplayStop) → held ≡ Some (before ++ shown is)
    → KeptOn is → setups_on is ≡ d ∷ [] → InHand bytes left is (items.Event e) → StopsStepping d (events_on is) e stop → Ends bytes before left held stop
ends_stepping bytes before left held d is e (stops.Bad number reason) holds kept begun h x = absurd x
ends_stepping bytes before left held d is e stops.ReadFault holds kept begun h x = absurd x
ends_stepping bytes before left held d is e stops.WriteFault holds kept begun h x = absurd x
ends_stepping bytes before left held d is e (stops.Full sum) holds kept begun h x = record {
  rest = h.rest;
  told = h.told;
  written = shown is;
  holds = holds;
  stopped = record {
    items = is;
    progress = h.progress;
    behind = h.behind;
    worked = h.worked;
    full = record {
      lines = h.worked.lines;
      progress = h.progress;
      behind = h.behind;
      taken = h.worked.taken;
      event = e;
      line = h.line;
      setup = d;
      begun = begun;
      within = within_of is d begun kept;
      full = x;
    };
    kept = kept;
    so_far = refl;
  };
}
ends_stepping bytes before left held d is e stops.OutOfMemory holds kept begun h x =
    record { rest = h.rest; told = h.told; written = shown is; holds = holds; stopped = within_nothing bytes h.rest is h.progress h.behind h.worked kept }

-- a front of the text of a line was written
pub within_line : (bytes : List ℕ) (left : List ℕ) (is : List LineItem) (item : LineItem) (p : Progress) (behind text : List ℕ) (n : ℕ) → Worked bytes left is p behind → InWork p behind item
    → KeptOn is → KeptOn (is ++ item ∷ []) → shown (is ++ item ∷ []) ≡ shown is ++ text → StopsWithin bytes left (shown is ++ take n text)
within_line bytes left is item p behind text n w line kept more shows = record {
  items = is;
  progress = p;
  behind = behind;
  worked = w;
  kept = kept;
  part = take n text;
  so_far = refl;
  most = inr (inl (record {
    item = item;
    line = line;
    kept = more;
    rest = drop n text;
    belongs = shows ∙ ap (λ (t : List ℕ). shown is ++ t) (sym (take-append-drop n text));
  }));
}

-- a failed write, of the text of the line in work
pub ends_writing : (bytes before : List ℕ) (left held held' : Option (List ℕ)) (is : List LineItem) (item : LineItem) (text : List ℕ) (stop : ReplayStop) → held ≡ Some (before ++ shown is)
    → KeptOn is → KeptOn (is ++ item ∷ []) → shown (is ++ item ∷ []) ≡ shown is ++ text → InHand bytes left is item
    → ((b : List ℕ) → held ≡ Some b → HoldsFront b text held') → ((l w : List ℕ) → StopsWithin bytes l w → Stopped bytes l w stop) → Ends bytes before left held' stop
ends_writing bytes before left held held' is item text stop holds kept more shows h front as_stop =
    let f = front (before ++ shown is) holds in
    record {
      rest = h.rest;
      told = h.told;
      written = shown is ++ take f.taken text;
      holds = f.held ∙ ap (λ (b : List ℕ). Some b) (append_assoc before (shown is) (take f.taken text));
      stopped = as_stop h.rest (shown is ++ take f.taken text) (within_line bytes h.rest is item h.progress h.behind text f.taken h.worked h.line kept more shows);
    }
