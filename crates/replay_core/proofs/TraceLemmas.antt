-- The trace of a run with one event more.
use Rattle.std.proofs.Common.{◌≡◌, ◌⊎◌, inl, inr, ℕ, ◌+◌, Bool, true, false, List, [], ◌∷◌, ◌++◌, length, map, fold, Option, Some, None, refl, sym, ◌∙◌, ap, subst, append_assoc, arith}
use Rattle.std.specs.List.{flat_map}
use Rattle.std.specs.Prelude.{nat_lt}
use Rattle.std.proofs.lemmas.Grind.{flat_map-append}
use Rattle.std.proofs.lemmas.List.{append-nil, length-append, length-map}
use Rattle.tcs_terms.specs.declared.inputs.Event.{Event}
use Rattle.tcs_terms.specs.declared.inputs.Note.{Note}
use Rattle.tcs_terms.specs.declared.inputs.Result1.{Result1}
use Rattle.tcs_terms.specs.Setups.{Deployment}
use Rattle.tcs_laws.specs.Certification.{Tests}
use Rattle.trace_text.specs.Lines.{Line, HeadLine, EventLine, NoteLine, printed}
use Rattle.trace_text.specs.Traces.{Happening, sends_of, message_lines, event_lines, events_lines}
use Rattle.protocol.specs.Limit.{Progress, Answer, Step, frame_bytes, frame_limit, limited_step, limited_run}
use Rattle.protocol.specs.Limit.Progress.{Live, Ended}
use Rattle.protocol.specs.Limit.Answer.{Happens, SoupFull}
use Rattle.protocol.specs.World.{World, Sent, Happening as Came, first_world, world_step}
use Rattle.protocol_laws.proofs.Guards.{by_guard}
use Rattle.protocol_laws.proofs.RunsOn.{event-adds, limited_run-on}
use Rattle.replay_core.specs.Trace.{tests_of, run_of, answer_to, sending, shown_by, happenings, run_trace, trace_front}

-- ---- an event under the limit

-- the event happens, and the run goes on; or the run ends
pub record Goes (w : World) (count : ℕ) (h : Came) (s : Step) : Type 0 where
  pub answer : s.answer ≡ Happens h.result h.notes h.sent
  pub bytes : ℕ
  pub after : s.after ≡ Live h.after (count + 1) bytes

pub record Ends (s : Step) : Type 0 where
  pub sum : ℕ
  pub answer : s.answer ≡ SoupFull sum
  pub world : World
  pub count : ℕ
  pub bytes : ℕ
  pub after : s.after ≡ Ended world count bytes

pub live_step : (tests : Tests) (version : ℕ) (w : World) (count bytes : ℕ) (e : Event)
    → Goes w count (world_step tests version w e) (limited_step tests version (Live w count bytes) e) ⊎ Ends (limited_step tests version (Live w count bytes) e)
unfolding limited_step
live_step tests version w count bytes e =
    let h = world_step tests version w e in
    by_guard {A = Step} (λ s. Goes w count h s ⊎ Ends s) (nat_lt frame_limit (bytes + frame_bytes h.sent))
    (λ passes. inr (record { sum = bytes + frame_bytes h.sent; answer = refl; world = _; count = count; bytes = _; after = refl }))
    (λ goes. inl (record { answer = refl; bytes = _; after = refl }))

-- ---- one event more

abbrev pub walk : Tests → ℕ → Progress → List Event → Progress
walk tests version p es = fold (λ q e. (limited_step tests version q e).after) p es

abbrev pub first_of : Deployment → Progress
first_of d = Live (first_world d) 0 0

pub run_is : (d : Deployment) (es : List Event) → run_of d es ≡ walk (tests_of d.rule) d.version (first_of d) es
unfolding limited_run
run_is d es = refl

-- the run with one event more
pub run_on : (d : Deployment) (es : List Event) (e : Event) → run_of d (es ++ e ∷ []) ≡ (limited_step (tests_of d.rule) d.version (run_of d es) e).after
run_on d es e = limited_run-on (tests_of d.rule) d es e

happenings_on : (tests : Tests) (version : ℕ) (p : Progress) (es : List Event) (e : Event)
    → happenings tests version p (es ++ e ∷ []) ≡ happenings tests version p es ++ shown_by (limited_step tests version (walk tests version p es) e).answer
unfolding happenings
happenings_on tests version p [] e = append-nil _
happenings_on tests version p (x ∷ es) e =
    let s = limited_step tests version p x in
    ap (λ (hs : List Happening). shown_by s.answer ++ hs) (happenings_on tests version s.after es e)
    ∙ sym (append_assoc (shown_by s.answer) (happenings tests version s.after es) (shown_by (limited_step tests version (walk tests version s.after es) e).answer))

abbrev pub happened : Deployment → List Event → List Happening
happened d es = happenings (tests_of d.rule) d.version (first_of d) es

pub happened_on : (d : Deployment) (es : List Event) (e : Event) → happened d (es ++ e ∷ []) ≡ happened d es ++ shown_by (answer_to d es e)
happened_on d es e =
    happenings_on (tests_of d.rule) d.version (first_of d) es e
    ∙ ap (λ (p : Progress). happened d es ++ shown_by (limited_step (tests_of d.rule) d.version p e).answer) (sym (run_is d es))

-- ---- how many

sends_append : (hs gs : List Happening) → sends_of (hs ++ gs) ≡ sends_of hs + sends_of gs
sends_append [] gs = omega arith
sends_append (h ∷ hs) gs = omega (arith, sends_append hs gs)

-- while the run is live, each event is shown, and each message
pub record Counted (d : Deployment) (es : List Event) (w : World) (count : ℕ) : Type 0 where
  pub events : count ≡ length es
  pub shown : length (happened d es) ≡ length es
  pub sent : sends_of (happened d es) ≡ length w.messages

abbrev pub CountedIn : Deployment → List Event → Progress → Type 0
CountedIn d es (Live w count bytes) = Counted d es w count
CountedIn d es (Ended w count bytes) = Unit {0}

none_counted : (d : Deployment) → CountedIn d [] (first_of d)
unfolding happenings first_world
none_counted d = record { events = refl; shown = refl; sent = refl }

counted_by : (d : Deployment) (es : List Event) (e : Event) (p : Progress) → run_of d es ≡ p → CountedIn d es p → CountedIn d (es ++ e ∷ []) (limited_step (tests_of d.rule) d.version p e).after
unfolding limited_step
counted_by d es e (Live w count bytes) is c = go (live_step (tests_of d.rule) d.version w count bytes e) where
  go : Goes w count (world_step (tests_of d.rule) d.version w e) (limited_step (tests_of d.rule) d.version (Live w count bytes) e) ⊎ Ends (limited_step (tests_of d.rule) d.version (Live w count bytes) e)
      → CountedIn d (es ++ e ∷ []) (limited_step (tests_of d.rule) d.version (Live w count bytes) e).after
  go (inl g) =
      let h = world_step (tests_of d.rule) d.version w e in
      let answer : answer_to d es e ≡ Happens h.result h.notes h.sent =
      ap (λ (p : Progress). (limited_step (tests_of d.rule) d.version p e).answer) is ∙ g.answer in
      let grown = happened_on d es e ∙ ap (λ (a : Answer). happened d es ++ shown_by a) answer in
      let many = length-append es (e ∷ []) in
      subst (CountedIn d (es ++ e ∷ [])) (sym g.after) (record {
        events = omega (arith, c.events, many);
        shown = omega (arith, ap length grown, length-append (happened d es) (shown_by (Happens h.result h.notes h.sent)), c.shown, many);
        sent = ap sends_of grown ∙ sends_append (happened d es) (shown_by (Happens h.result h.notes h.sent))
            ∙ omega (arith, c.sent, length-map h.sent sending, length-append w.messages h.sent, ap length (event-adds (tests_of d.rule) d.version w e).messages);
      })
  go (inr x) = subst (CountedIn d (es ++ e ∷ [])) (sym x.after) tt
counted_by d es e (Ended w count bytes) is c = tt

counted_on : (d : Deployment) (es : List Event) (e : Event) → CountedIn d es (run_of d es) → CountedIn d (es ++ e ∷ []) (run_of d (es ++ e ∷ []))
counted_on d es e c = subst (CountedIn d (es ++ e ∷ [])) (sym (run_on d es e)) (counted_by d es e (run_of d es) refl c)

counted_from : (d : Deployment) (rest es : List Event) → CountedIn d es (run_of d es) → CountedIn d (es ++ rest) (run_of d (es ++ rest))
counted_from d [] es c = subst (λ (fs : List Event). CountedIn d fs (run_of d fs)) (sym (append-nil es)) c
counted_from d (e ∷ rest) es c =
    subst (λ (fs : List Event). CountedIn d fs (run_of d fs)) (append_assoc es (e ∷ []) rest) (counted_from d rest (es ++ e ∷ []) (counted_on d es e c))

pub counted : (d : Deployment) (es : List Event) → CountedIn d es (run_of d es)
counted d es = counted_from d es [] (subst (CountedIn d []) (sym (run_is d [])) (none_counted d))

-- ---- the lines of one event more

events_on : (k number : ℕ) (hs : List Happening) (h : Happening)
    → events_lines k number (hs ++ h ∷ []) ≡ events_lines k number hs ++ event_lines (k + length hs) (number + sends_of hs) h
events_on k number [] h =
    append-nil (event_lines k number h) ∙ ap (λ n. event_lines n number h) (omega arith) ∙ ap (λ n. event_lines (k + 0) n h) (omega arith)
events_on k number (g ∷ hs) h =
    ap (λ (ls : List Line). event_lines k number g ++ ls)
    (events_on (k + 1) (number + length g.sends) hs h
    ∙ ap (λ n. events_lines (k + 1) (number + length g.sends) hs ++ event_lines n (number + length g.sends + sends_of hs) h) (omega arith)
    ∙ ap (λ n. events_lines (k + 1) (number + length g.sends) hs ++ event_lines (k + length (g ∷ hs)) n h) (omega arith))
    ∙ sym (append_assoc (event_lines k number g) (events_lines (k + 1) (number + length g.sends) hs) (event_lines (k + length (g ∷ hs)) (number + sends_of (g ∷ hs)) h))

-- what belongs to one event: its line, its notes, its messages
abbrev pub event_text : (k number : ℕ) → Result1 → List Note → List Sent → List ℕ
event_text k number result notes sent = flat_map printed (event_lines k number (record { result = result; notes = notes; sends = map sending sent }))

pub front_on : (d : Deployment) (es : List Event) (e : Event) (w : World) (count bytes : ℕ) (result : Result1) (notes : List Note) (sent : List Sent)
    → run_of d es ≡ Live w count bytes → answer_to d es e ≡ Happens result notes sent
    → trace_front d (es ++ e ∷ []) ≡ trace_front d es ++ event_text (count + 1) (length w.messages + 1) result notes sent
front_on d es e w count bytes result notes sent is answer =
    let c : Counted d es w count = subst (CountedIn d es) is (counted d es) in
    let h : Happening = record { result = result; notes = notes; sends = map sending sent } in
    let grown : happened d (es ++ e ∷ []) ≡ happened d es ++ h ∷ [] = happened_on d es e ∙ ap (λ (a : Answer). happened d es ++ shown_by a) answer in
    let k : 1 + length (happened d es) ≡ count + 1 = omega (arith, c.events, c.shown) in
    let number : 1 + sends_of (happened d es) ≡ length w.messages + 1 = omega (arith, c.sent) in
    let lines = ap (events_lines 1 1) grown ∙ events_on 1 1 (happened d es) h
    ∙ ap (λ n. events_lines 1 1 (happened d es) ++ event_lines n (1 + sends_of (happened d es)) h) k
    ∙ ap (λ n. events_lines 1 1 (happened d es) ++ event_lines (count + 1) n h) number in
    ap (λ (ls : List Line). printed (HeadLine d.version d.rule d.shards) ++ flat_map printed ls) lines
    ∙ ap (λ (t : List ℕ). printed (HeadLine d.version d.rule d.shards) ++ t) (flat_map-append printed (events_lines 1 1 (happened d es)) (event_lines (count + 1) (length w.messages + 1) h))
    ∙ sym (append_assoc (printed (HeadLine d.version d.rule d.shards)) (flat_map printed (events_lines 1 1 (happened d es))) (event_text (count + 1) (length w.messages + 1) result notes sent))

-- ---- the text of one event

notes_text : (notes : List Note) → flat_map printed (map NoteLine notes) ≡ flat_map (λ note. printed (NoteLine note)) notes
notes_text [] = refl
notes_text (note ∷ notes) = ap (λ (t : List ℕ). printed (NoteLine note) ++ t) (notes_text notes)

pub event_text_is : (k number : ℕ) (result : Result1) (notes : List Note) (sent : List Sent)
    → event_text k number result notes sent
    ≡ (printed (EventLine k result) ++ flat_map (λ note. printed (NoteLine note)) notes) ++ flat_map printed (message_lines number (map sending sent))
event_text_is k number result notes sent =
    ap (λ (t : List ℕ). printed (EventLine k result) ++ t)
    (flat_map-append printed (map NoteLine notes) (message_lines number (map sending sent))
    ∙ ap (λ (t : List ℕ). t ++ flat_map printed (message_lines number (map sending sent))) (notes_text notes))
    ∙ sym (append_assoc (printed (EventLine k result)) (flat_map (λ note. printed (NoteLine note)) notes) (flat_map printed (message_lines number (map sending sent))))
