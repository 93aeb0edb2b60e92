-- From line to line: what a turn keeps, and what each stop says.
use Rattle.std.proofs.Common.{◌≡◌, inl, inr, ℕ, ◌+◌, ◌≤◌, true, false, List, [], ◌∷◌, ◌++◌, length, take, drop, Option, Some, None, refl, sym, ◌∙◌, ap, subst, append_assoc, length-append, take-append-drop, arith}
use Rattle.std.specs.List.{flat_map}
use Rattle.std.proofs.lemmas.List.{append-nil}
use Rattle.tcs_io.specs.Bytes.{HoldsFront}
use Rattle.tcs_io.specs.declared.writing.SinkStop.{SinkStop}
use Rattle.tcs_io.specs.declared.writing.SinkStop.TheVariants as sinks
use Rattle.schedule_text.specs.declared.limits.TheConstants.{LINE_LIMIT}
use Rattle.schedule_text.specs.declared.lines.Got.{Got}
use Rattle.schedule_text.specs.declared.lines.Got.TheVariants.{Whole, Cut, Long, Nothing}
use Rattle.schedule_text.specs.declared.lines.LinesStop.{LinesStop}
use Rattle.schedule_text.specs.declared.lines.LinesStop.TheVariants as lines
use Rattle.schedule_text.specs.Bytes.{IsNext}
use Rattle.schedule_text.specs.Lines.{IsLine, Fits, Divides, HandsOut, Keeps, has_feed, line_feed, used}
use Rattle.schedule_text.specs.Text.{with_feed}
use Rattle.quorum_protocol.specs.declared.terms.Event.{Event}
use Rattle.quorum_protocol.specs.World.{World, run}
use Rattle.quorum_config.specs.declared.places.Place.{Place}
use Rattle.quorum_config.specs.declared.places.Place.TheVariants as places
use Rattle.quorum_config.specs.declared.places.Progress.{Progress}
use Rattle.quorum_config.specs.declared.places.Item.{Item}
use Rattle.quorum_config.specs.declared.stops.QuorumStop.{QuorumStop}
use Rattle.quorum_config.specs.declared.stops.QuorumStop.TheVariants as stops
use Rattle.quorum_config.specs.Readings.{◌>>=◌, line_reading, line_parts, read_at, at_start, events_of}
use Rattle.quorum_config.specs.Runs.{Worked, StopsWithin, Stopped, OfLine, OfTail, Ends, Finishes, FirstBad, IsEnd, next_reading, shown, shown_at}
use Rattle.quorum_config.specs.Standing.{State, IsAt, Takes, first_state, stop_of_lines, stop_of_sink, text_after, IsWorldAt}
use Rattle.quorum_config.specs.Texts.{end_text, run_front, run_text}
use Rattle.quorum_config.specs.Walks.{is_ended}
use Rattle.quorum_config.proofs.RunTexts.{adds, kept}
use Rattle.quorum_config.proofs.Steps.{none_taken, one_taken}

-- ---- what comes next

-- of these bytes a call used up some, and holds the next ones
record Ahead (got : Got) (all line held left : List ℕ) : Type 0 where
  bytes : List ℕ
  read : all ≡ bytes ++ left
  many : length bytes ≡ used got line + length held

ahead_of : (got : Got) (all line held left : List ℕ) → Fits got line → Divides got all line held left → Ahead got all line held left
ahead_of Whole all line held left f d = record {
  bytes = line ++ line_feed ∷ held;
  read = d ∙ sym (append_assoc line (line_feed ∷ held) left);
  many = omega (arith, length-append line (line_feed ∷ held));
}
ahead_of Cut all line held left f d = record {
  bytes = line;
  read = d.0 ∙ sym (append-nil line) ∙ ap (λ (b : List ℕ). line ++ b) (sym d.2);
  many = omega (arith, ap length d.1);
}
ahead_of Long all line held left f d = record { bytes = line ++ held; read = d ∙ sym (append_assoc line held left); many = length-append line held }
ahead_of Nothing all line held left f d = record { bytes = []; read = d.0 ∙ sym d.2; many = omega (arith, ap length f, ap length d.1) }

next_of : (got : Got) (all line held left : List ℕ) → Fits got line → Divides got all line held left → IsNext all got line (held ++ left)
next_of Whole all line held left f d = (f, d)
next_of Cut all line held left f d = (f, (d.0, refl, ap (λ (b : List ℕ). b ++ left) d.1 ∙ d.2))
next_of Long all line held left f d = (f, d)
next_of Nothing all line held left f d = (f, (d.0, refl, ap (λ (b : List ℕ). b ++ left) d.1 ∙ d.2))

-- ---- stops

-- the lines so far were worked through, and this is what the source has left of the rest
record Left (bytes behind : List ℕ) (es : List Event) (p : Progress) (left : Option (List ℕ)) : Type 0 where
  rest : List ℕ
  told : left ≡ Some rest
  worked : Worked bytes rest es p behind

left_of : (bytes before held_lines : List ℕ) (number : ℕ) (s : State) (left held : Option (List ℕ)) → (at : IsAt bytes before held_lines number s left held)
    → (got : Got) (line held' : List ℕ) (left' : Option (List ℕ)) → Fits got line → HandsOut got (held_lines ++ at.rest) line held' left' → used got line + length held' ≤ LINE_LIMIT + 1
    → Left bytes (held_lines ++ at.rest) at.events s.progress left'
left_of bytes before held_lines number s left held at got line held' left' f h few =
    let a = ahead_of got (held_lines ++ at.rest) line held' h.rest f h.divided in
    record {
      rest = h.rest;
      told = h.told;
      worked = record { lines = at.lines; taken = at.taken; ahead = a.bytes; read = a.read; few = omega (arith, few, a.many); kept = kept s.progress.acceptors at.events };
    }

nothing_of : (bytes rest behind : List ℕ) (es : List Event) (p : Progress) → Worked bytes rest es p behind → StopsWithin bytes rest (shown p es)
nothing_of bytes rest behind es p w =
    record { events = es; progress = p; behind = behind; worked = w; part = []; so_far = sym (append-nil (shown p es)); most = inl refl }

-- no memory was left for the line in work
pub memory_stops : (bytes before held_lines : List ℕ) (number : ℕ) (s : State) (left held : Option (List ℕ)) → (at : IsAt bytes before held_lines number s left held)
    → (got : Got) (line held' : List ℕ) (left' : Option (List ℕ)) → Fits got line → HandsOut got (held_lines ++ at.rest) line held' left' → used got line + length held' ≤ LINE_LIMIT + 1
    → Ends bytes before left' held stops.OutOfMemory
memory_stops bytes before held_lines number s left held at got line held' left' f h few =
    let l = left_of bytes before held_lines number s left held at got line held' left' f h few in
    record {
      rest = l.rest;
      told = l.told;
      written = shown s.progress at.events;
      holds = at.holds;
      stopped = nothing_of bytes l.rest (held_lines ++ at.rest) at.events s.progress l.worked;
    }

-- no line was handed out
pub read_stops : (bytes before held_lines : List ℕ) (number : ℕ) (s : State) (left held : Option (List ℕ)) → (at : IsAt bytes before held_lines number s left held)
    → (stop : LinesStop) (held' : List ℕ) (left' : Option (List ℕ)) → Keeps (held_lines ++ at.rest) held' left' → (stop ≡ lines.ReadFault → IsLine held') → length held' ≤ LINE_LIMIT + 1
    → Ends bytes before left' held (stop_of_lines stop)
read_stops bytes before held_lines number s left held at stop held' left' k part few = go stop part where
  worked : Worked bytes k.rest at.events s.progress (held_lines ++ at.rest)
  worked = record { lines = at.lines; taken = at.taken; ahead = held'; read = k.whole; few = few; kept = kept s.progress.acceptors at.events }

  go : (stop : LinesStop) → (stop ≡ lines.ReadFault → IsLine held') → Ends bytes before left' held (stop_of_lines stop)
  go lines.ReadFault part = record {
    rest = k.rest;
    told = k.told;
    written = shown s.progress at.events;
    holds = at.holds;
    stopped = record { events = at.events; progress = s.progress; behind = held_lines ++ at.rest; worked = worked; unfinished = (part refl).no_feed; so_far = refl };
  }
  go lines.OutOfMemory part = record {
    rest = k.rest;
    told = k.told;
    written = shown s.progress at.events;
    holds = at.holds;
    stopped = nothing_of bytes k.rest (held_lines ++ at.rest) at.events s.progress worked;
  }

-- what came next may not stand there
pub bad_stops : (bytes before held_lines : List ℕ) (number : ℕ) (s : State) (left held : Option (List ℕ)) → (at : IsAt bytes before held_lines number s left held)
    → (got : Got) (line held' : List ℕ) (left' : Option (List ℕ)) → Fits got line → HandsOut got (held_lines ++ at.rest) line held' left' → used got line + length held' ≤ LINE_LIMIT + 1
    → next_reading s.progress got line ≡ None → (IsEnd got s.progress.place → ⊥) → Ends bytes before left' held (stops.Bad (number + 1))
bad_stops bytes before held_lines number s left held at got line held' left' f h few refused goes =
    let l = left_of bytes before held_lines number s left held at got line held' left' f h few in
    record {
      rest = l.rest;
      told = l.told;
      written = shown s.progress at.events;
      holds = at.holds;
      stopped = record {
        events = at.events;
        progress = s.progress;
        behind = held_lines ++ at.rest;
        worked = l.worked;
        bad = record {
          lines = at.lines;
          progress = s.progress;
          behind = held_lines ++ at.rest;
          taken = at.taken;
          numbered = ap (λ (n : ℕ). n + 1) at.counted;
          got = got;
          line = line;
          rest = held' ++ h.rest;
          next = next_of got (held_lines ++ at.rest) line held' h.rest f h.divided;
          refused = refused;
          not_the_end = goes;
        };
        so_far = refl;
      };
    }

-- a failed write is one of two stops, and both say the same
sink_stops : (bytes l w : List ℕ) (stop : SinkStop) → StopsWithin bytes l w → Stopped bytes l w (stop_of_sink stop)
sink_stops bytes l w sinks.Failed x = x
sink_stops bytes l w sinks.OutOfMemory x = x

-- the text of a line was written in part
pub write_stops : (bytes before held_lines : List ℕ) (number : ℕ) (s : State) (left held : Option (List ℕ)) → (at : IsAt bytes before held_lines number s left held)
    → (line held' : List ℕ) (left' : Option (List ℕ)) → IsLine line → HandsOut Whole (held_lines ++ at.rest) line held' left' → used Whole line + length held' ≤ LINE_LIMIT + 1
    → (new : State) (text : List ℕ) → Takes s line new text
    → (stop : SinkStop) (held'' : Option (List ℕ)) → ((b : List ℕ) → held ≡ Some b → HoldsFront b text held'') → Ends bytes before left' held'' (stop_of_sink stop)
write_stops bytes before held_lines number s left held at line held' left' f h few new text t stop held'' front =
    let l = left_of bytes before held_lines number s left held at Whole line held' left' f h few in
    let m = adds s.progress new.progress t.item at.events s.world t.walks.leads at.world at.many in
    let w = front (before ++ shown s.progress at.events) at.holds in
    record {
      rest = l.rest;
      told = l.told;
      written = shown s.progress at.events ++ take w.taken text;
      holds = w.held ∙ ap (λ (b : List ℕ). Some b) (append_assoc before (shown s.progress at.events) (take w.taken text));
      stopped = sink_stops bytes l.rest (shown s.progress at.events ++ take w.taken text) stop (record {
        events = at.events;
        progress = s.progress;
        behind = held_lines ++ at.rest;
        worked = l.worked;
        part = take w.taken text;
        so_far = refl;
        most = inr (inl (record {
          line = line;
          after = held' ++ h.rest;
          item = t.item;
          next = new.progress;
          stands = next_of Whole (held_lines ++ at.rest) line held' h.rest f h.divided;
          read = t.read;
          rest = drop w.taken text;
          belongs = m.text ∙ ap (λ (b : List ℕ). shown s.progress at.events ++ b) (sym t.text_is ∙ sym (take-append-drop w.taken text));
        }));
      });
    }

-- ---- turns

-- no line is taken yet
pub at_first : (bytes before : List ℕ) (left held : Option (List ℕ)) → left ≡ Some bytes → held ≡ Some before → IsAt bytes before [] 0 first_state left held
at_first bytes before left held told holds = record {
  rest = bytes;
  told = told;
  lines = [];
  events = [];
  taken = none_taken bytes;
  counted = refl;
  many = refl;
  world = refl;
  few = omega arith;
  holds = holds ∙ ap (λ (b : List ℕ). Some b) (sym (append-nil before));
}

-- the next line is taken, and its text written
pub goes_on : (bytes before held_lines : List ℕ) (number : ℕ) (s : State) (left held : Option (List ℕ)) → (at : IsAt bytes before held_lines number s left held)
    → (line held' : List ℕ) (left' : Option (List ℕ)) → IsLine line → HandsOut Whole (held_lines ++ at.rest) line held' left' → used Whole line + length held' ≤ LINE_LIMIT + 1
    → (new : State) (text : List ℕ) → Takes s line new text
    → (held'' : Option (List ℕ)) → ((b : List ℕ) → held ≡ Some b → held'' ≡ Some (b ++ text)) → IsAt bytes before held' (number + 1) new left' held''
goes_on bytes before held_lines number s left held at line held' left' f h few new text t held'' wrote =
    let m = adds s.progress new.progress t.item at.events s.world t.walks.leads at.world at.many in
    record {
      rest = h.rest;
      told = h.told;
      lines = at.lines ++ line ∷ [];
      events = at.events ++ events_of t.item;
      taken = one_taken bytes at.lines at.events s.progress new.progress (held_lines ++ at.rest) line (held' ++ h.rest) t.item at.taken
          (next_of Whole (held_lines ++ at.rest) line held' h.rest f h.divided) t.read;
      counted = ap (λ (n : ℕ). n + 1) at.counted ∙ sym (length-append at.lines (line ∷ []));
      many = m.many;
      world = subst (λ (w : World). IsWorldAt new.progress.place new.progress.acceptors (at.events ++ events_of t.item) w) (sym t.world) m.world;
      few = omega (arith, few);
      holds = wrote (before ++ shown s.progress at.events) at.holds
          ∙ ap (λ (b : List ℕ). Some b) (append_assoc before (shown s.progress at.events) text ∙ ap (λ (b : List ℕ). before ++ b) (ap (λ (b : List ℕ). shown s.progress at.events ++ b) t.text_is ∙ sym m.text));
    }

-- no memory was left before the first line
pub first_stops : (bytes before : List ℕ) (left held : Option (List ℕ)) → left ≡ Some bytes → held ≡ Some before → Ends bytes before left held stops.OutOfMemory
first_stops bytes before left held told holds = record {
  rest = bytes;
  told = told;
  written = [];
  holds = holds ∙ ap (λ (b : List ℕ). Some b) (sym (append-nil before));
  stopped = nothing_of bytes bytes bytes [] at_start (record { lines = []; taken = none_taken bytes; ahead = []; read = refl; few = omega arith; kept = kept 0 [] });
}

-- ---- behind the last line

place_ended : (place : Place) → is_ended place ≡ true → place ≡ places.Ended
place_ended places.Version h = absurd cc
place_ended places.Acceptors h = absurd cc
place_ended places.Proposers h = absurd cc
place_ended places.Shards h = absurd cc
place_ended places.Configs h = absurd cc
place_ended places.Begin h = absurd cc
place_ended places.Events h = absurd cc
place_ended places.Ended h = refl

-- no line may stand there
pub ended_refuses : (p : Progress) (line : List ℕ) → is_ended p.place ≡ true → line_reading p line ≡ None
unfolding line_reading
ended_refuses p line h = go (line_parts line) where
  go : (o : Option (List ℕ × List ℕ)) → (o >>= λ parts. read_at p p.place parts.0 parts.1) ≡ None
  go None = refl
  go (Some parts) = rw (place_ended p.place h) refl

pub other_than_nothing : (got : Got) (place : Place) → (got ≡ Nothing → ⊥) → IsEnd got place → ⊥
other_than_nothing got place differs e = differs e.0

pub not_ended : (got : Got) (place : Place) → is_ended place ≡ false → IsEnd got place → ⊥
not_ended got place h e = differ (sym h ∙ ap is_ended e.1) where
  differ : false ≡ true → ⊥
  differ x = absurd cc

-- the last line of the text
tail_is : (p : Progress) (es : List Event) (w : World) → p.place ≡ places.Ended → IsWorldAt p.place p.acceptors es w → p.events ≡ length es
    → run_text p.acceptors es ≡ shown p es ++ end_text p.events (length w.messages)
tail_is p es w ended at many =
    let here : w ≡ run p.acceptors es = subst (λ (x : Place). IsWorldAt x p.acceptors es w) ended at in
    ap (λ (v : World). run_front p.acceptors es ++ end_text (length es) (length v.messages)) (sym here)
    ∙ ap (λ (n : ℕ). run_front p.acceptors es ++ end_text n (length w.messages)) (sym many)
    ∙ ap (λ (x : Place). shown_at x p.acceptors es ++ end_text p.events (length w.messages)) (sym ended)

pub finishes : (bytes before held_lines : List ℕ) (number : ℕ) (s : State) (left held : Option (List ℕ)) → (at : IsAt bytes before held_lines number s left held)
    → (line held' : List ℕ) (left' : Option (List ℕ)) → HandsOut Nothing (held_lines ++ at.rest) line held' left' → is_ended s.progress.place ≡ true
    → (held'' : Option (List ℕ)) → ((b : List ℕ) → held ≡ Some b → held'' ≡ Some (b ++ end_text s.progress.events (length s.world.messages))) → Finishes bytes before left' held''
finishes bytes before held_lines number s left held at line held' left' h last held'' wrote =
    let ended = place_ended s.progress.place last in
    let tail = tail_is s.progress at.events s.world ended at.world at.many in
    record {
      rest = h.rest;
      told = h.told;
      written = run_text s.progress.acceptors at.events;
      holds = wrote (before ++ shown s.progress at.events) at.holds
          ∙ ap (λ (b : List ℕ). Some b) (append_assoc before (shown s.progress at.events) (end_text s.progress.events (length s.world.messages)) ∙ ap (λ (b : List ℕ). before ++ b) (sym tail));
      runs = record {
        acceptors = s.progress.acceptors;
        events = at.events;
        input = record {
          lines = at.lines;
          progress = s.progress;
          taken = record { each = at.taken.each; front = at.taken.front ∙ ap (λ (b : List ℕ). flat_map with_feed at.lines ++ b) h.divided.0; read = at.taken.read };
          ended = ended;
          over = refl;
        };
        kept = kept s.progress.acceptors at.events;
        at_end = h.divided.2;
        whole = refl;
      };
    }

-- the last line of the text was written in part
pub tail_stops : (bytes before held_lines : List ℕ) (number : ℕ) (s : State) (left held : Option (List ℕ)) → (at : IsAt bytes before held_lines number s left held)
    → (line held' : List ℕ) (left' : Option (List ℕ)) → Fits Nothing line → HandsOut Nothing (held_lines ++ at.rest) line held' left' → used Nothing line + length held' ≤ LINE_LIMIT + 1
    → is_ended s.progress.place ≡ true → (stop : SinkStop) (held'' : Option (List ℕ))
    → ((b : List ℕ) → held ≡ Some b → HoldsFront b (end_text s.progress.events (length s.world.messages)) held'') → Ends bytes before left' held'' (stop_of_sink stop)
tail_stops bytes before held_lines number s left held at line held' left' f h few last stop held'' front =
    let l = left_of bytes before held_lines number s left held at Nothing line held' left' f h few in
    let ended = place_ended s.progress.place last in
    let text = end_text s.progress.events (length s.world.messages) in
    let w = front (before ++ shown s.progress at.events) at.holds in
    record {
      rest = l.rest;
      told = l.told;
      written = shown s.progress at.events ++ take w.taken text;
      holds = w.held ∙ ap (λ (b : List ℕ). Some b) (append_assoc before (shown s.progress at.events) (take w.taken text));
      stopped = sink_stops bytes l.rest (shown s.progress at.events ++ take w.taken text) stop (record {
        events = at.events;
        progress = s.progress;
        behind = held_lines ++ at.rest;
        worked = l.worked;
        part = take w.taken text;
        so_far = refl;
        most = inr (inr (record {
          ended = ended;
          at_end = h.divided.0;
          rest = drop w.taken text;
          belongs = tail_is s.progress at.events s.world ended at.world at.many ∙ ap (λ (b : List ℕ). shown s.progress at.events ++ b) (sym (take-append-drop w.taken text));
        }));
      });
    }
