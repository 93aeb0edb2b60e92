-- The lines of a schedule are read as they stand, and a line that is refused continues no schedule.
use Rattle.std.proofs.Common.{◌≡◌, ℕ, ◌+◌, ◌<◌, ◌≤◌, true, false, List, [], ◌∷◌, ◌++◌, length, map, Option, None, Ok, Err, refl, sym, ◌∙◌, ap, append_assoc, arith, codes}
use Rattle.std.specs.Prelude.{nat_lt}
use Rattle.std.specs.List.{AllByRecursion}
use Rattle.std.proofs.lemmas.Bool.Decides.{nat_tests}
use Rattle.tcs_terms.specs.declared.inputs.Event.{Event}
use Rattle.tcs_terms.specs.declared.inputs.Event.TheVariants.{Call, DeliverNumber, Stop}
use Rattle.text_words.specs.declared.words.Reason.{Reason}
use Rattle.tcs_terms.specs.Setups.{Deployment, IsDeployment}
use Rattle.text_words.specs.Words.{words_of, begins}
use Rattle.schedule_text.specs.declared.limits.TheConstants.{EVENT_LIMIT}
use Rattle.schedule_text.specs.declared.lines.Got.TheVariants.{Whole}
use Rattle.schedule_text.specs.declared.places.Place.{Place}
use Rattle.schedule_text.specs.declared.places.Place.TheVariants as places
use Rattle.schedule_text.specs.declared.reader.LineItem.{LineItem}
use Rattle.schedule_text.specs.declared.reader.LineItem.TheVariants as items
use Rattle.schedule_text.specs.declared.verbs.CallVerb.TheVariants as calls
use Rattle.schedule_text.specs.declared.verbs.Verb.{Verb}
use Rattle.schedule_text.specs.declared.verbs.Verb.TheVariants as verbs
use Rattle.schedule_text.specs.Text.{setup_lines, event_line, schedule_lines}
use Rattle.schedule_text.specs.Header.{Head, head_at, no_parts}
use Rattle.schedule_text.specs.Events.{names_only}
use Rattle.schedule_text.specs.Schedules.{Progress, at_start, head_item, header_line_at, end_line_at, counted_event_at, event_line_at, line_reading}
use Rattle.schedule_text.specs.Whole.{IsSchedule, reads, header_items, schedule_items, at_end}
use Rattle.tcs_terms.specs.Runs.{MayStand}
use Rattle.schedule_text.proofs.EventReadings.{verb_word, names_verb}
use Rattle.schedule_text.proofs.EventSpellings.{Small, spellable, event_again}
use Rattle.schedule_text.proofs.HeaderLines.{standing, Heads, header_heads}
use Rattle.schedule_text.proofs.HeaderReadings.{in_header, head_lines, setup_is_whole}
use Rattle.schedule_text.proofs.HeaderSpellings.{events_again}
use Rattle.schedule_text.proofs.LineWords.{words_of_event}
use Rattle.schedule_text.proofs.ScheduleReadings.{at, headed, event_items, small_setup}
use Rattle.text_words.proofs.Steps.{bind_ok, ok_is, not_both}

-- ---- lines that are read, joined

pub reads_one : (p : Progress) (line : List ℕ) (i : LineItem) (q : Progress) (lines : List (List ℕ)) (is : List LineItem) (r : Progress)
    → line_reading p Whole line ≡ Ok (i, q) → reads q lines ≡ Ok (is, r) → reads p (line ∷ lines) ≡ Ok (i ∷ is, r)
reads_one p line i q lines is r h k = rw (h, k) refl

pub reads_append : (xs ys : List (List ℕ)) (p q : Progress) (is js : List LineItem) (r : Progress) → reads p xs ≡ Ok (is, q) → reads q ys ≡ Ok (js, r) → reads p (xs ++ ys) ≡ Ok (is ++ js, r)
reads_append [] ys p q is js r h k =
    let e : ◌≡◌ {A = List LineItem × Progress} ([], p) (is, q) = ok_is ([], p) (is, q) h in
    let i : [] ≡ is = ap (λ (x : List LineItem × Progress). x.0) e in
    let at : p ≡ q = ap (λ (x : List LineItem × Progress). x.1) e in
    rw (at, ← i) k
reads_append (x ∷ xs) ys p q is js r h k =
    let a = bind_ok (line_reading p Whole x) _ (is, q) h in
    let b = bind_ok (reads a.0.1 xs) _ (is, q) a.2 in
    let e : ◌≡◌ {A = List LineItem × Progress} (a.0.0 ∷ b.0.0, b.0.1) (is, q) = ok_is (a.0.0 ∷ b.0.0, b.0.1) (is, q) b.2 in
    let i : a.0.0 ∷ b.0.0 ≡ is = ap (λ (y : List LineItem × Progress). y.0) e in
    let at : b.0.1 ≡ q = ap (λ (y : List LineItem × Progress). y.1) e in
    let rest = reads_append xs ys a.0.1 b.0.1 b.0.0 js r b.1 (rw at k) in
    rw (← i) (reads_one p x a.0.0 a.0.1 (xs ++ ys) (b.0.0 ++ js) r a.1 rest)

-- ---- lines of the header

line_read : (place : Place) (d : Deployment) (count : ℕ) (line : List ℕ) (words : List (List ℕ)) (x : Option Deployment × Head) → in_header place ≡ true → words_of line ≡ words
    → head_at None place d words ≡ Ok x → line_reading (at place d count) Whole line ≡ Ok (head_item x.0, record { head = x.1; count = count })
unfolding header_line_at
line_read places.Version d count line words x here is h = rw (is, h) refl
line_read places.Certifier d count line words x here is h = rw (is, h) refl
line_read places.Shards d count line words x here is h = rw (is, h) refl
line_read places.Parts d count line words x here is h = rw (is, h) refl
line_read places.Events d count line words x here is h = absurd cc
line_read places.Ended d count line words x here is h = absurd cc

-- lines that are read as those of a header are the header's lines of a schedule
headed_read : (lines : List (List ℕ)) (h k : Head) (count : ℕ) → Heads None h lines k → reads (record { head = h; count = count }) lines ≡ Ok (headed lines, record { head = k; count = count })
headed_read [] h k count p = ap (λ (m : Head). Ok ([], record { head = m; count = count })) p
headed_read (line ∷ lines) h k count p =
    reads_one (record { head = h; count = count }) line items.Header (record { head = p.0; count = count }) lines (headed lines) _
    (line_read h.place h.setup count line (words_of line) (None, p.0) p.1 refl p.2) (headed_read lines p.0 k count p.3)

-- ---- events

not_end : (v : Verb) (ws : List (List ℕ)) → begins (codes "end") (verb_word v ∷ ws) ≡ false
not_end (verbs.Call calls.Certify) ws = refl
not_end (verbs.Call calls.Take) ws = refl
not_end (verbs.Call calls.Nudge) ws = refl
not_end (verbs.Call calls.Move) ws = refl
not_end (verbs.Call calls.Lower) ws = refl
not_end (verbs.Call calls.Read) ws = refl
not_end (verbs.Call calls.Ask) ws = refl
not_end verbs.Deliver ws = refl
not_end verbs.Stop ws = refl

for_any : (e : Event) → names_only None e ≡ true
for_any (Call node input) = refl
for_any (DeliverNumber number) = refl
for_any (Stop node) = refl

event_read : (d : Deployment) (count : ℕ) (e : Event) → Small d → MayStand d e → count < EVENT_LIMIT
    → line_reading (at places.Events d count) Whole (event_line e) ≡ Ok (items.Event e, at places.Events d (count + 1))
unfolding event_line_at counted_event_at
event_read d count e small may room =
    let a = event_again None d e small may.event may.fits (for_any e) in
    let words = words_of_event e (spellable d e small may.event may.fits) ∙ a.spelled in
    let below : nat_lt count EVENT_LIMIT ≡ true = grind (arith, nat_tests) in
    rw (words, not_end a.verb a.rest, names_verb a.verb, below, a.read) refl

events_read : (es : List Event) (d : Deployment) (count : ℕ) → Small d → AllByRecursion (MayStand d) es → count + length es ≤ EVENT_LIMIT
    → reads (at places.Events d count) (map event_line es) ≡ Ok (event_items es, at places.Events d (count + length es))
events_read [] d count small each room = ap (λ (n : ℕ). Ok ([], at places.Events d n)) (omega arith)
events_read (e ∷ es) d count small each room =
    let others = events_read es d (count + 1) small each.1 (omega arith) in
    reads_one (at places.Events d count) (event_line e) (items.Event e) (at places.Events d (count + 1)) (map event_line es) (event_items es) _
    (event_read d count e small each.0 (omega arith))
    (others ∙ ap (λ (n : ℕ). Ok (event_items es, at places.Events d n)) (omega arith))

pub end_read : (d : Deployment) (count : ℕ) → line_reading (at places.Events d count) Whole (codes "end") ≡ Ok (items.End, at_end d count)
unfolding event_line_at end_line_at
end_read d count = refl

-- ---- the whole text

setup_read : (d : Deployment) → IsDeployment d → reads at_start (setup_lines d) ≡ Ok (header_items d ++ items.Begun d ∷ [], at places.Events d 0)
setup_read d is =
    let last : reads (at places.Parts d 0) (codes "events" ∷ []) ≡ Ok (items.Begun d ∷ [], at places.Events d 0) =
    reads_one (at places.Parts d 0) (codes "events") (items.Begun d) (at places.Events d 0) [] [] _ (line_read places.Parts d 0 (codes "events") _ _ refl refl (events_again None d is refl)) refl in
    ap (reads at_start) (setup_is_whole d)
    ∙ reads_append (head_lines places.Parts d) (codes "events" ∷ []) at_start (at places.Parts d 0) (header_items d) (items.Begun d ∷ []) (at places.Events d 0)
    (headed_read (head_lines places.Parts d) (standing places.Version no_parts) (standing places.Parts d) 0 (header_heads None d is)) last

-- the lines of a schedule are read as its setup and its events
pub schedule_read : (d : Deployment) (es : List Event) → IsSchedule d es → reads at_start (schedule_lines d es) ≡ Ok (schedule_items d es, at_end d (length es))
schedule_read d es h =
    let few = h.few in
    let last : reads (at places.Events d (length es)) (codes "end" ∷ []) ≡ Ok (items.End ∷ [], at_end d (length es)) =
    reads_one (at places.Events d (length es)) (codes "end") items.End (at_end d (length es)) [] [] _ (end_read d (length es)) refl in
    let zero_more : ◌≡◌ {A = ℕ} (0 + length es) (length es) = omega arith in
    let body = events_read es d 0 (small_setup d h.setup) h.events (omega arith) ∙ ap (λ (n : ℕ). Ok (event_items es, at places.Events d n)) zero_more in
    let events = reads_append (map event_line es) (codes "end" ∷ []) (at places.Events d 0) (at places.Events d (length es)) (event_items es) (items.End ∷ []) (at_end d (length es)) body last in
    let whole = reads_append (setup_lines d) (map event_line es ++ codes "end" ∷ []) at_start (at places.Events d 0) (header_items d ++ items.Begun d ∷ []) (event_items es ++ items.End ∷ []) (at_end d (length es))
    (setup_read d h.setup) events in
    whole ∙ ap (λ (is : List LineItem). Ok (is, at_end d (length es))) (append_assoc (header_items d) (items.Begun d ∷ []) (event_items es ++ items.End ∷ []))

-- ---- what is refused

pub splits : (xs ys : List (List ℕ)) (p q : Progress) (is : List LineItem) (x : List LineItem × Progress) → reads p xs ≡ Ok (is, q) → reads p (xs ++ ys) ≡ Ok x
    → (y : List LineItem × Progress) × (reads q ys ≡ Ok y)
splits [] ys p q is x h k =
    let e : ◌≡◌ {A = List LineItem × Progress} ([], p) (is, q) = ok_is ([], p) (is, q) h in
    let at : p ≡ q = ap (λ (x : List LineItem × Progress). x.1) e in
    (x, rw (← at) k)
splits (l ∷ xs) ys p q is x h k =
    let a = bind_ok (line_reading p Whole l) _ (is, q) h in
    let b = bind_ok (reads a.0.1 xs) _ (is, q) a.2 in
    let e : ◌≡◌ {A = List LineItem × Progress} (a.0.0 ∷ b.0.0, b.0.1) (is, q) = ok_is (a.0.0 ∷ b.0.0, b.0.1) (is, q) b.2 in
    let at : b.0.1 ≡ q = ap (λ (y : List LineItem × Progress). y.1) e in
    let c = bind_ok (line_reading p Whole l) _ x k in
    let f = bind_ok (reads c.0.1 (xs ++ ys)) _ x c.2 in
    let same : ◌≡◌ {A = LineItem × Progress} c.0 a.0 = ok_is c.0 a.0 (sym c.1 ∙ a.1) in
    let goes : reads a.0.1 (xs ++ ys) ≡ Ok f.0 = ap (λ (y : LineItem × Progress). reads y.1 (xs ++ ys)) (sym same) ∙ f.1 in
    splits xs ys a.0.1 q b.0.0 f.0 (b.1 ∙ ap (λ (r : Progress). Ok (b.0.0, r)) at) goes

pub refused_continues_none : (lines : List (List ℕ)) (is : List LineItem) (p : Progress) (line : List ℕ) (reason : Reason) (d : Deployment) (es : List Event) (more : List (List ℕ))
    → reads at_start lines ≡ Ok (is, p) → line_reading p Whole line ≡ Err reason → IsSchedule d es → schedule_lines d es ≡ lines ++ line ∷ more → ⊥
refused_continues_none lines is p line reason d es more h refused schedule same =
    let whole : reads at_start (lines ++ line ∷ more) ≡ Ok (schedule_items d es, at_end d (length es)) = ap (reads at_start) (sym same) ∙ schedule_read d es schedule in
    let rest = splits lines (line ∷ more) at_start p is (schedule_items d es, at_end d (length es)) h whole in
    let a = bind_ok (line_reading p Whole line) _ rest.0 rest.1 in
    not_both (line_reading p Whole line) a.0 reason a.1 refused

-- ---- one spelling

no_event_ends : (e : Event) → items.End ≡ items.Event e → ⊥
no_event_ends e h = absurd cc

first_item : (i j : LineItem) (is js : List LineItem) → i ∷ is ≡ j ∷ js → (i ≡ j) × (is ≡ js)
first_item i j is js h = (cc, cc)

event_is : (e f : Event) → ◌≡◌ {A = LineItem} (items.Event e) (items.Event f) → e ≡ f
event_is e f h = cc

same_events : (es fs : List Event) → event_items es ++ items.End ∷ [] ≡ event_items fs ++ items.End ∷ [] → es ≡ fs
same_events [] [] h = refl
same_events [] (f ∷ fs) h = absurd (no_event_ends f (first_item _ _ _ _ h).0)
same_events (e ∷ es) [] h = absurd (no_event_ends e (sym (first_item _ _ _ _ h).0))
same_events (e ∷ es) (f ∷ fs) h =
    let parts = first_item (items.Event e) (items.Event f) (event_items es ++ items.End ∷ []) (event_items fs ++ items.End ∷ []) h in
    let head = event_is e f parts.0 in
    let tail = same_events es fs parts.1 in
    cc

same_after : (front is js : List LineItem) → front ++ is ≡ front ++ js → is ≡ js
same_after [] is js h = h
same_after (i ∷ front) is js h = same_after front is js (first_item i i (front ++ is) (front ++ js) h).1

pub one_schedule : (d e : Deployment) (es fs : List Event) → IsSchedule d es → IsSchedule e fs → schedule_lines d es ≡ schedule_lines e fs → (d ≡ e) × (es ≡ fs)
one_schedule d e es fs h k same =
    let read : ◌≡◌ {A = List LineItem × Progress} (schedule_items d es, at_end d (length es)) (schedule_items e fs, at_end e (length fs)) =
    ok_is (schedule_items d es, at_end d (length es)) (schedule_items e fs, at_end e (length fs)) (sym (schedule_read d es h) ∙ ap (reads at_start) same ∙ schedule_read e fs k) in
    let setup : d ≡ e = ap (λ (x : List LineItem × Progress). x.1.head.setup) read in
    let items_are : schedule_items d es ≡ schedule_items e fs = ap (λ (x : List LineItem × Progress). x.0) read in
    let of_one : schedule_items d es ≡ schedule_items d fs = items_are ∙ ap (λ (f : Deployment). schedule_items f fs) (sym setup) in
    let rest = same_after (header_items d) (items.Begun d ∷ (event_items es ++ items.End ∷ [])) (items.Begun d ∷ (event_items fs ++ items.End ∷ [])) of_one in
    (setup, same_events es fs (first_item (items.Begun d) (items.Begun d) (event_items es ++ items.End ∷ []) (event_items fs ++ items.End ∷ []) rest).1)
