-- What the sink holds where a generated schedule is written, and where that stops.
use Rattle.std.proofs.Common.{◌≡◌, ℕ, zero, suc, ◌+◌, ◌<◌, ◌≤◌, List, [], ◌∷◌, ◌++◌, map, take, drop, Option, Some, inl, inr, refl, sym, subst, ap, ◌∙◌, arith, append-nil, append_assoc}
use Rattle.std.specs.List.{flat_map}
use Rattle.std.proofs.lemmas.List.{take-append-drop}
use Rattle.tcs_io.specs.Bytes.{HoldsFront}
use Rattle.tcs_io.specs.declared.writing.SinkStop.{SinkStop}
use Rattle.tcs_io.specs.declared.writing.SinkStop.TheVariants as sinks
use Rattle.tcs_terms.specs.declared.inputs.Event.{Event}
use Rattle.schedule_text.specs.Text.{setup_lines, with_feed, event_line}
use Rattle.generated_runs.specs.Setup.{setup}
use Rattle.generated_runs.specs.Runs.{generated, events_until, next_event, KeepsWithin}
use Rattle.generated_runs.proofs.Fitting.{fits}
use Rattle.generated_runs.proofs.Promised.{kept, copied}
use Rattle.workload.specs.declared.stops.GenStop.{GenStop}
use Rattle.workload.specs.declared.stops.GenStop.TheVariants as stops
use Rattle.workload.specs.Outcomes.{Kept, Writes, StopsWithin, Stopped}
use Rattle.workload.specs.Standing.{StopsBehind, StopsFrom}
use Rattle.workload.specs.Stops.{stop_of_sink}
use Rattle.workload.specs.Texts.{front_until, generated_text}

-- ---- texts

lines-joined : (xs ys : List (List ℕ)) → flat_map with_feed (xs ++ ys) ≡ flat_map with_feed xs ++ flat_map with_feed ys
lines-joined [] ys = refl
lines-joined (x ∷ xs) ys = ap (λ (t : List ℕ). with_feed x ++ t) (lines-joined xs ys) ∙ sym (append_assoc (with_feed x) (flat_map with_feed xs) (flat_map with_feed ys))

lines-mapped : (es : List Event) (e : Event) → map event_line (es ++ e ∷ []) ≡ map event_line es ++ event_line e ∷ []
lines-mapped [] e = refl
lines-mapped (x ∷ xs) e = ap (λ (ls : List (List ℕ)). event_line x ∷ ls) (lines-mapped xs e)

one-line : (l : List ℕ) → flat_map with_feed (l ∷ []) ≡ with_feed l
one-line l = append-nil (with_feed l)

-- one line more
pub front_on : (seed count place : ℕ) → front_until seed count (suc place) ≡ front_until seed count place ++ with_feed (event_line (next_event count (suc place) (generated seed count place)))
unfolding events_until
front_on seed count place =
    let e = next_event count (suc place) (generated seed count place) in
    let es = events_until seed count place in
    ap (λ (ls : List (List ℕ)). flat_map with_feed (setup_lines setup ++ ls)) (lines-mapped es e)
    ∙ ap (flat_map with_feed) (sym (append_assoc (setup_lines setup) (map event_line es) (event_line e ∷ [])))
    ∙ lines-joined (setup_lines setup ++ map event_line es) (event_line e ∷ [])
    ∙ ap (λ (t : List ℕ). front_until seed count place ++ t) (one-line (event_line e))

-- the header alone
pub front_begins : (seed count : ℕ) → front_until seed count zero ≡ flat_map with_feed (setup_lines setup)
unfolding events_until
front_begins seed count = ap (flat_map with_feed) (append-nil (setup_lines setup))

-- the last line
pub front_ends : (seed count : ℕ) (last : List ℕ) → last ≡ 101 ∷ 110 ∷ 100 ∷ 10 ∷ [] → generated_text seed count ≡ front_until seed count count ++ last
front_ends seed count last is =
    let ls = map event_line (events_until seed count count) in
    ap (flat_map with_feed) (sym (append_assoc (setup_lines setup) ls ((101 ∷ 110 ∷ 100 ∷ []) ∷ [])))
    ∙ lines-joined (setup_lines setup ++ ls) ((101 ∷ 110 ∷ 100 ∷ []) ∷ []) ∙ ap (λ (t : List ℕ). front_until seed count count ++ t) (sym is)

-- ---- what was kept

pub kept_at : (seed count place : ℕ) → place ≤ 50000 → KeepsWithin seed count place → Kept seed count place
kept_at seed count place few within =
    let events = (fits seed count place (omega (arith, few)) within).events in
    record { fit = events; within = within; promises = kept seed count place events; one_copy = copied seed count place events }

-- ---- stops

-- nothing more was written
pub cut_before : (seed count place : ℕ) (before : List ℕ) (held : Option (List ℕ)) → place ≤ count → KeepsWithin seed count place → held ≡ Some (before ++ front_until seed count place) → StopsWithin seed count before held
cut_before seed count place before held few within holds =
    record { place = place; few = few; within = within; written = front_until seed count place; rest = []; begins = inl (sym (append-nil (front_until seed count place))); holds = holds }

-- a front of what follows was written
cut_in : (seed count place : ℕ) (before so_far piece : List ℕ) (held : Option (List ℕ)) → place ≤ count → KeepsWithin seed count place → front_until seed count place ≡ so_far ++ piece → HoldsFront (before ++ so_far) piece held
    → StopsWithin seed count before held
cut_in seed count place before so_far piece held few within is h = record {
  place = place;
  few = few;
  within = within;
  written = so_far ++ take h.taken piece;
  rest = drop h.taken piece;
  begins = inl (is ∙ ap (λ (t : List ℕ). so_far ++ t) (sym (take-append-drop h.taken piece)) ∙ sym (append_assoc so_far (take h.taken piece) (drop h.taken piece)));
  holds = h.held ∙ ap (λ (t : List ℕ). Some t) (append_assoc before so_far (take h.taken piece));
}

by_sink : (seed count : ℕ) (before : List ℕ) (held : Option (List ℕ)) (stop : SinkStop) → StopsWithin seed count before held → Stopped seed count before held (stop_of_sink stop)
by_sink seed count before held sinks.Failed w = w
by_sink seed count before held sinks.OutOfMemory w = w

pub cut_line : (seed count place : ℕ) (before so_far piece : List ℕ) (held : Option (List ℕ)) (stop : SinkStop) → place ≤ count → KeepsWithin seed count place → front_until seed count place ≡ so_far ++ piece
    → HoldsFront (before ++ so_far) piece held → Stopped seed count before held (stop_of_sink stop)
cut_line seed count place before so_far piece held stop few within is h = by_sink seed count before held stop (cut_in seed count place before so_far piece held few within is h)

-- the last line was cut
pub cut_end : (seed count : ℕ) (before last : List ℕ) (held : Option (List ℕ)) (stop : SinkStop) → KeepsWithin seed count count → generated_text seed count ≡ front_until seed count count ++ last
    → HoldsFront (before ++ front_until seed count count) last held → Stopped seed count before held (stop_of_sink stop)
cut_end seed count before last held stop within is h =
    let so_far = front_until seed count count in
    by_sink seed count before held stop (record {
      place = count;
      few = omega arith;
      within = within;
      written = so_far ++ take h.taken last;
      rest = drop h.taken last;
      begins = inr (refl, is ∙ ap (λ (t : List ℕ). so_far ++ t) (sym (take-append-drop h.taken last)) ∙ sym (append_assoc so_far (take h.taken last) (drop h.taken last)));
      holds = h.held ∙ ap (λ (t : List ℕ). Some t) (append_assoc before so_far (take h.taken last));
    })

-- the next event was not taken
pub not_taken : (seed count place : ℕ) (before : List ℕ) (held : Option (List ℕ)) (stop : GenStop) → place < count → count ≤ 50000 → KeepsWithin seed count place → held ≡ Some (before ++ front_until seed count place)
    → StopsBehind seed count place stop → Stopped seed count before held stop
not_taken seed count place before held stops.WriteFault less most within holds t = absurd t
not_taken seed count place before held (stops.Full sum) less most within holds t =
    record { place = place; full = record { within_count = less; within = within; full = t }; kept = kept_at seed count place (omega (arith, less, most)) within; holds = holds }
not_taken seed count place before held stops.OutOfMemory less most within holds t = cut_before seed count place before held (omega (arith, less)) within holds

pub full_from : (seed count place : ℕ) (stop : GenStop) → place < count → KeepsWithin seed count place → StopsBehind seed count place stop → StopsFrom seed count stop
full_from seed count place stops.WriteFault less within t = tt
full_from seed count place (stops.Full sum) less within t = (place, record { within_count = less; within = within; full = t })
full_from seed count place stops.OutOfMemory less within t = tt

-- the line of the event was written
pub line_written : (seed count place : ℕ) (before piece : List ℕ) (held : Option (List ℕ)) → piece ≡ with_feed (event_line (next_event count (suc place) (generated seed count place)))
    → held ≡ Some ((before ++ front_until seed count place) ++ piece) → held ≡ Some (before ++ front_until seed count (suc place))
line_written seed count place before piece held is h =
    h ∙ ap (λ (t : List ℕ). Some t) (append_assoc before (front_until seed count place) piece ∙ ap (λ (p : List ℕ). before ++ (front_until seed count place ++ p)) is ∙ ap (λ (t : List ℕ). before ++ t) (sym (front_on seed count place)))

-- ---- the header

first_within : (seed count : ℕ) → KeepsWithin seed count zero
unfolding generated
first_within seed count = refl

pub nothing_written : (seed count : ℕ) (before : List ℕ) (held : Option (List ℕ)) → held ≡ Some before → StopsWithin seed count before held
nothing_written seed count before held h =
    record { place = zero; few = omega arith; within = first_within seed count; written = []; rest = front_until seed count zero; begins = inl refl; holds = h ∙ ap (λ (t : List ℕ). Some t) (sym (append-nil before)) }

pub cut_header : (seed count : ℕ) (before piece : List ℕ) (held : Option (List ℕ)) (stop : SinkStop) → piece ≡ flat_map with_feed (setup_lines setup) → HoldsFront before piece held → Stopped seed count before held (stop_of_sink stop)
cut_header seed count before piece held stop is h =
    cut_line seed count zero before [] piece held stop (omega arith) (first_within seed count) (front_begins seed count ∙ sym is) (subst (λ (t : List ℕ). HoldsFront t piece held) (sym (append-nil before)) h)

pub header_written : (seed count : ℕ) (before piece : List ℕ) (held : Option (List ℕ)) → piece ≡ flat_map with_feed (setup_lines setup) → held ≡ Some (before ++ piece) → held ≡ Some (before ++ front_until seed count zero)
header_written seed count before piece held is h = h ∙ ap (λ (t : List ℕ). Some (before ++ t)) (is ∙ sym (front_begins seed count))

-- ---- the whole text

pub all_written : (seed count : ℕ) (before last : List ℕ) (held : Option (List ℕ)) → count ≤ 50000 → KeepsWithin seed count count → last ≡ 101 ∷ 110 ∷ 100 ∷ 10 ∷ [] → held ≡ Some ((before ++ front_until seed count count) ++ last)
    → Writes seed count before held
all_written seed count before last held most within is h = record {
  kept = kept_at seed count count most within;
  holds = h ∙ ap (λ (t : List ℕ). Some t) (append_assoc before (front_until seed count count) last ∙ ap (λ (t : List ℕ). before ++ t) (sym (front_ends seed count last is)));
}
