-- Behind the last line: the input has ended, and the last two lines of the trace are written.
use Rattle.std.proofs.Common.{◌≡◌, ◌⊎◌, inl, inr, ℕ, ◌+◌, true, false, List, [], ◌∷◌, ◌++◌, length, take, drop, Option, Some, Ok, refl, sym, ◌∙◌, ap, subst, append_assoc, arith}
use Rattle.std.specs.List.{flat_map}
use Rattle.std.proofs.lemmas.Grind.{flat_map-append}
use Rattle.std.proofs.lemmas.List.{append-nil, take-append-drop}
use Rattle.tcs_io.specs.Bytes.{HoldsFront}
use Rattle.tcs_terms.specs.declared.inputs.Event.{Event}
use Rattle.tcs_terms.specs.Setups.{Deployment}
use Rattle.tcs_laws.specs.Certification.{Tests}
use Rattle.trace_text.specs.Lines.{Line, HeadLine, OrderLine, EndLine, printed}
use Rattle.trace_text.specs.Traces.{events_lines, sends_of}
use Rattle.schedule_text.specs.declared.lines.Got.{Got}
use Rattle.schedule_text.specs.declared.lines.Got.TheVariants.{Whole, Cut, Long, Nothing}
use Rattle.schedule_text.specs.declared.places.Place.TheVariants as places
use Rattle.schedule_text.specs.declared.reader.LineItem.{LineItem}
use Rattle.schedule_text.specs.declared.reader.LineItem.TheVariants as items
use Rattle.schedule_text.specs.Bytes.{IsText, Taken, events_on, setups_on}
use Rattle.schedule_text.specs.Lines.{HandsOut}
use Rattle.schedule_text.specs.Schedules.{Progress}
use Rattle.schedule_text.proofs.BytesRead.{events_append, setups_append}
use Rattle.schedule_text.proofs.FirstBadLines.{taken_to_the_end}
use Rattle.protocol.specs.Limit.{Progress as Run}
use Rattle.protocol.specs.Limit.Progress.{Live, Ended}
use Rattle.protocol.specs.History.{order_of}
use Rattle.replay_core.specs.declared.reading.Reading.{Reading}
use Rattle.replay_core.specs.declared.stops.ReplayStop.{ReplayStop}
use Rattle.protocol_laws.specs.Promises.{world_of}
use Rattle.world.specs.WorldState.{events_of}
use Rattle.replay_core.specs.Trace.{run_of, is_live, run_trace, trace, trace_front}
use Rattle.replay_core.specs.Replays.{Kept, KeptOn, Replays, Stopped, StopsWithin, OfTail, Worked, shown, Ends, Finishes}
use Rattle.replay_core.specs.Standing.{Takes, Standing, HasRead, RunsAt, StandsBegun, IsAt}
use Rattle.replay_core.proofs.Places.{last, end_place}
use Rattle.replay_core.proofs.Promised.{kept, are_events}
use Rattle.replay_core.proofs.Taking.{TakesWhole, is_nothing, reads_on}
use Rattle.replay_core.proofs.TraceLemmas.{CountedIn, counted, happened}
use Rattle.replay_core.proofs.Working.{shown_is, kept_of, within_nothing}

-- ---- the line `end`

setups_end : (is : List LineItem) → setups_on (is ++ items.End ∷ []) ≡ setups_on is
setups_end is = setups_append is (items.End ∷ []) ∙ append-nil (setups_on is)

events_end : (is : List LineItem) → events_on (is ++ items.End ∷ []) ≡ events_on is
events_end is = events_append is (items.End ∷ []) ∙ append-nil (events_on is)

pub stands_ended : (tests : Tests) (old new : Reading) (setup : Deployment) (p : Run) (is : List LineItem) → StandsBegun tests places.Events old setup p is
    → Standing new (is ++ items.End ∷ []) → StandsBegun tests places.Ended new setup p (is ++ items.End ∷ [])
stands_ended tests old new setup p is s t =
    let d = old.reader.head.setup in
    let l = last t.lines is items.End new.reader t.read in
    let at = end_place new.reader.head.place new.reader.head.setup d (setups_on is) s.begun l.ends l.setups in
    record {
      standing = t;
      place = at.0;
      begun = setups_end is ∙ s.begun ∙ ap (λ (f : Deployment). f ∷ []) (sym at.1);
      runs = subst (λ (f : Deployment). RunsAt tests setup p f (events_on (is ++ items.End ∷ []))) (sym at.1)
          (subst (RunsAt tests setup p d) (sym (events_end is)) s.runs);
    }

shown_end : (is : List LineItem) (d : Deployment) → setups_on is ≡ d ∷ [] → shown (is ++ items.End ∷ []) ≡ shown is
shown_end is d e = shown_is (is ++ items.End ∷ []) d (setups_end is ∙ e) ∙ ap (trace_front d) (events_end is) ∙ sym (shown_is is d e)

-- nothing belongs to it
pub is_at_ended : (bytes before : List ℕ) (old new : Reading) (d : Deployment) (left held left' : Option (List ℕ)) (is : List LineItem)
    → IsAt bytes before old left held is → TakesWhole old new items.End left left' → setups_on is ≡ d ∷ [] → IsAt bytes before new left' held (is ++ items.End ∷ [])
is_at_ended bytes before old new d left held left' is at t begun = record {
  read = reads_on bytes old new is items.End left left' at.read t;
  holds = at.holds ∙ ap (λ (t : List ℕ). Some (before ++ t)) (sym (shown_end is d begun));
}

-- ---- the end of the input

-- the source is at its end, and the bytes are a text
pub record AtEnd (bytes : List ℕ) (left : Option (List ℕ)) (is : List LineItem) (p : Progress) : Type 0 where
  pub left_is : left ≡ Some []
  pub text : IsText bytes p.head.setup (events_on is)
  pub worked : Worked bytes [] is p []

by_nothing : (bytes : List ℕ) (old : Reading) (left left' : Option (List ℕ)) (is : List LineItem) (got : Got) (out held : List ℕ) → old.reader.head.place ≡ places.Ended
    → (r : HasRead bytes old left is) → got ≡ Nothing → HandsOut got (old.lines ++ r.rest) out held left' → AtEnd bytes left' is old.reader
by_nothing bytes old left left' is Whole out held at r is_nothing h = absurd cc
by_nothing bytes old left left' is Cut out held at r is_nothing h = absurd cc
by_nothing bytes old left left' is Long out held at r is_nothing h = absurd cc
by_nothing bytes old left left' is Nothing out held at r is_nothing h =
    let taken : Taken bytes r.lines is old.reader [] = subst (Taken bytes r.lines is old.reader) h.divided.0 r.taken in
    record {
      left_is = h.told ∙ ap (λ (b : List ℕ). Some b) h.divided.2;
      text = taken_to_the_end bytes r.lines is old.reader taken at;
      worked = record { lines = r.lines; taken = taken; ahead = []; read = refl; few = omega arith };
    }

pub at_end : (bytes : List ℕ) (old new : Reading) (left left' : Option (List ℕ)) (is : List LineItem) (item : LineItem) → old.reader.head.place ≡ places.Ended → HasRead bytes old left is
    → Takes old new item left left' → AtEnd bytes left' is old.reader
at_end bytes old new left left' is item at r t =
    by_nothing bytes old left left' is t.got t.line new.lines at r (is_nothing old.reader t.got t.line (item, new.reader) at t.read) (t.hands r.rest r.told)

-- ---- the last two lines

abbrev pub tail_of : Run → List ℕ
tail_of p = printed (OrderLine (order_of (world_of p).history)) ++ printed (EndLine (events_of p) (length (world_of p).messages))

trace_by : (d : Deployment) (es : List Event) (p : Run) → run_of d es ≡ p → CountedIn d es p → is_live p ≡ true → trace d es ≡ trace_front d es ++ tail_of p
trace_by d es (Live w count bytes) is c live =
    let head = printed (HeadLine d.version d.rule d.shards) in
    let events = events_lines 1 1 (run_trace d es).happenings in
    let order = order_of w.history in
    let same_order : order_of (world_of (run_of d es)).history ≡ order = ap (λ (p : Run). order_of (world_of p).history) is in
    let last = λ (o : List _) (n m : ℕ). OrderLine o ∷ EndLine n m ∷ [] in
    let lines : OrderLine (order_of (world_of (run_of d es)).history) ∷ EndLine (length (happened d es)) (sends_of (happened d es)) ∷ [] ≡ OrderLine order ∷ EndLine count (length w.messages) ∷ [] =
    ap (λ o. last o (length (happened d es)) (sends_of (happened d es))) same_order
    ∙ ap (λ n. last order n (sends_of (happened d es))) (c.shown ∙ sym c.events) ∙ ap (λ n. last order count n) c.sent in
    ap (λ (ls : List Line). head ++ flat_map printed (events ++ ls)) lines
    ∙ ap (λ (t : List ℕ). head ++ t) (flat_map-append printed events (OrderLine order ∷ EndLine count (length w.messages) ∷ []))
    ∙ ap (λ (t : List ℕ). head ++ (flat_map printed events ++ (printed (OrderLine order) ++ t))) (append-nil (printed (EndLine count (length w.messages))))
    ∙ sym (append_assoc head (flat_map printed events) (tail_of (Live w count bytes)))
trace_by d es (Ended w count bytes) is c live = absurd cc

pub trace_is : (d : Deployment) (es : List Event) → is_live (run_of d es) ≡ true → trace d es ≡ trace_front d es ++ tail_of (run_of d es)
trace_is d es live = trace_by d es (run_of d es) refl (counted d es) live

-- the text of the last two lines, of the run that the world has
pub tail_is : (tests : Tests) (r : Reading) (setup : Deployment) (p : Run) (is : List LineItem) (text : List ℕ) → StandsBegun tests places.Ended r setup p is → text ≡ tail_of p
    → trace r.reader.head.setup (events_on is) ≡ shown is ++ text
tail_is tests r setup p is text s e =
    let d = r.reader.head.setup in
    trace_is d (events_on is) s.runs.within ∙ ap (λ (t : List ℕ). t ++ tail_of (run_of d (events_on is))) (sym (shown_is is d s.begun))
    ∙ ap (λ (t : List ℕ). shown is ++ t) (ap tail_of (sym s.runs.so_far) ∙ sym e)

pub finishes : (bytes before : List ℕ) (tests : Tests) (r : Reading) (setup : Deployment) (p : Run) (is : List LineItem) (text : List ℕ) (left held held' : Option (List ℕ))
    → StandsBegun tests places.Ended r setup p is → text ≡ tail_of p → held ≡ Some (before ++ shown is) → AtEnd bytes left is r.reader
    → ((b : List ℕ) → held ≡ Some b → held' ≡ Some (b ++ text)) → Finishes bytes before left held'
finishes bytes before tests r setup p is text left held held' s e holds at wrote = record {
  rest = [];
  told = at.left_is;
  written = shown is ++ text;
  holds = wrote (before ++ shown is) holds ∙ ap (λ (b : List ℕ). Some b) (append_assoc before (shown is) text);
  replays = record {
    setup = r.reader.head.setup;
    events = events_on is;
    text = at.text;
    kept = kept r.reader.head.setup (events_on is) (are_events r is s.standing s.begun) s.runs.within;
    at_end = refl;
    whole = sym (tail_is tests r setup p is text s e);
  };
}

-- memory ran out before the last two lines were written
pub ends_tail_unwritten : (bytes before : List ℕ) (tests : Tests) (r : Reading) (setup : Deployment) (p : Run) (is : List LineItem) (left held : Option (List ℕ)) (stop : ReplayStop)
    → StandsBegun tests places.Ended r setup p is → held ≡ Some (before ++ shown is) → AtEnd bytes left is r.reader → ((l w : List ℕ) → StopsWithin bytes l w → Stopped bytes l w stop)
    → Ends bytes before left held stop
ends_tail_unwritten bytes before tests r setup p is left held stop s holds at as_stop =
    record { rest = []; told = at.left_is; written = shown is; holds = holds; stopped = as_stop [] (shown is) (within_nothing bytes [] is r.reader [] at.worked (kept_of tests places.Ended r setup p is s)) }

-- a front of them was written
pub ends_tail : (bytes before : List ℕ) (tests : Tests) (r : Reading) (setup : Deployment) (p : Run) (is : List LineItem) (text : List ℕ) (left held held' : Option (List ℕ)) (stop : ReplayStop)
    → StandsBegun tests places.Ended r setup p is → text ≡ tail_of p → held ≡ Some (before ++ shown is) → AtEnd bytes left is r.reader
    → ((b : List ℕ) → held ≡ Some b → HoldsFront b text held') → ((l w : List ℕ) → StopsWithin bytes l w → Stopped bytes l w stop) → Ends bytes before left held' stop
ends_tail bytes before tests r setup p is text left held held' stop s e holds at front as_stop =
    let f = front (before ++ shown is) holds in
    record {
      rest = [];
      told = at.left_is;
      written = shown is ++ take f.taken text;
      holds = f.held ∙ ap (λ (b : List ℕ). Some b) (append_assoc before (shown is) (take f.taken text));
      stopped = as_stop [] (shown is ++ take f.taken text) (record {
        items = is;
        progress = r.reader;
        behind = [];
        worked = at.worked;
        kept = kept_of tests places.Ended r setup p is s;
        part = take f.taken text;
        so_far = refl;
        most = inr (inr (record {
          setup = r.reader.head.setup;
          text = at.text;
          at_end = refl;
          rest = drop f.taken text;
          belongs = tail_is tests r setup p is text s e ∙ ap (λ (t : List ℕ). shown is ++ t) (sym (take-append-drop f.taken text));
        }));
      });
    }
