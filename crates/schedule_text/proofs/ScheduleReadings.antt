-- Lines that are read, one after the other, are the lines of a schedule.
use Rattle.std.proofs.Common.{◌≡◌, ℕ, ◌+◌, ◌<◌, ◌≤◌, Bool, true, false, cond, List, [], ◌∷◌, ◌++◌, length, map, Option, Some, None, Ok, refl, sym, ◌∙◌, ap, subst, append_assoc, arith, codes}
use Rattle.std.specs.Prelude.{nat_lt}
use Rattle.std.specs.List.{AllByRecursion}
use Rattle.std.proofs.lemmas.Bool.Decides.{nat_tests}
use Rattle.std.proofs.lemmas.List.{append-nil, length-append}
use Rattle.tcs_terms.specs.declared.inputs.Event.{Event}
use Rattle.text_words.specs.declared.words.Reason.TheVariants as reasons
use Rattle.tcs_terms.specs.Setups.{Deployment, IsDeployment}
use Rattle.text_words.specs.Words.{words_of, begins, after}
use Rattle.schedule_text.specs.declared.limits.TheConstants.{EVENT_LIMIT}
use Rattle.schedule_text.specs.declared.lines.Got.TheVariants.{Whole}
use Rattle.schedule_text.specs.declared.places.Place.{Place}
use Rattle.schedule_text.specs.declared.places.Place.TheVariants as places
use Rattle.schedule_text.specs.declared.reader.LineItem.{LineItem}
use Rattle.schedule_text.specs.declared.reader.LineItem.TheVariants as items
use Rattle.schedule_text.specs.declared.verbs.Verb.{Verb}
use Rattle.schedule_text.specs.Text.{setup_lines, event_line, schedule_lines}
use Rattle.schedule_text.specs.Words.{end_at}
use Rattle.schedule_text.specs.Header.{head_at}
use Rattle.schedule_text.specs.Events.{verb_of, event_at}
use Rattle.schedule_text.specs.Schedules.{Progress, at_start, head_item, header_line_at, end_line_at, counted_event_at, verb_line_at, first_verb, event_line_at, line_reading}
use Rattle.schedule_text.specs.Whole.{IsRead, Begins, reads, header_items, schedule_items}
use Rattle.tcs_terms.specs.Runs.{MayStand}
use Rattle.schedule_text.proofs.EventReadings.{verb_word, verb_named, event_takes}
use Rattle.schedule_text.proofs.EventSpellings.{Small, spellable}
use Rattle.schedule_text.proofs.HeaderReadings.{head_lines, HeadStands, HeadItem, in_header, head_takes, map_end}
use Rattle.schedule_text.proofs.LineWords.{words_of_event}
use Rattle.schedule_text.proofs.NumberReadings.{begun, end_takes}
use Rattle.schedule_text.proofs.Spaces.{same_words}
use Rattle.text_words.proofs.Steps.{bind_ok, chosen, ok_is}

-- ---- where a reader stands

-- the lines so far
abbrev pub lines_at : Place → Deployment → List Event → List (List ℕ)
lines_at places.Version d es = head_lines places.Version d
lines_at places.Certifier d es = head_lines places.Certifier d
lines_at places.Shards d es = head_lines places.Shards d
lines_at places.Parts d es = head_lines places.Parts d
lines_at places.Events d es = setup_lines d ++ map event_line es
lines_at places.Ended d es = schedule_lines d es

abbrev pub headed : List (List ℕ) → List LineItem
headed lines = map (λ line. items.Header) lines

abbrev pub event_items : List Event → List LineItem
event_items es = map (λ e. items.Event e) es

-- what they are
abbrev pub items_at : Place → Deployment → List Event → List LineItem
items_at places.Version d es = headed (head_lines places.Version d)
items_at places.Certifier d es = headed (head_lines places.Certifier d)
items_at places.Shards d es = headed (head_lines places.Shards d)
items_at places.Parts d es = headed (head_lines places.Parts d)
items_at places.Events d es = header_items d ++ (items.Begun d ∷ event_items es)
items_at places.Ended d es = schedule_items d es

-- what is known of the events so far
abbrev pub EventsStand : Place → Deployment → ℕ → List Event → Type 0
EventsStand places.Version d count es = (es ≡ []) × (count ≡ 0)
EventsStand places.Certifier d count es = (es ≡ []) × (count ≡ 0)
EventsStand places.Shards d count es = (es ≡ []) × (count ≡ 0)
EventsStand places.Parts d count es = (es ≡ []) × (count ≡ 0)
EventsStand places.Events d count es = AllByRecursion (MayStand d) es × (count ≡ length es) × (length es ≤ EVENT_LIMIT)
EventsStand places.Ended d count es = AllByRecursion (MayStand d) es × (count ≡ length es) × (length es ≤ EVENT_LIMIT)

pub record Stands (p : Progress) (es : List Event) : Type 0 where
  pub head : HeadStands p.head.place p.head.setup
  pub events : EventsStand p.head.place p.head.setup p.count es

-- one more line is read
pub record Step (p : Progress) (es : List Event) (line : List ℕ) (x : LineItem × Progress) : Type 0 where
  pub more : List Event
  pub stands : Stands x.1 more
  pub lines : lines_at x.1.head.place x.1.head.setup more ≡ lines_at p.head.place p.head.setup es ++ line ∷ []
  pub items : items_at x.1.head.place x.1.head.setup more ≡ items_at p.head.place p.head.setup es ++ x.0 ∷ []

-- ---- lines of the header

abbrev pub at : Place → Deployment → ℕ → Progress
at place d count = record { head = record { place = place; setup = d }; count = count }

lines_in_header : (place : Place) (d : Deployment) → in_header place ≡ true → lines_at place d [] ≡ head_lines place d
lines_in_header places.Version d h = refl
lines_in_header places.Certifier d h = refl
lines_in_header places.Shards d h = refl
lines_in_header places.Parts d h = refl
lines_in_header places.Events d h = absurd cc
lines_in_header places.Ended d h = absurd cc

items_in_header : (place : Place) (d : Deployment) → in_header place ≡ true → items_at place d [] ≡ headed (head_lines place d)
items_in_header places.Version d h = refl
items_in_header places.Certifier d h = refl
items_in_header places.Shards d h = refl
items_in_header places.Parts d h = refl
items_in_header places.Events d h = absurd cc
items_in_header places.Ended d h = absurd cc

events_in_header : (place : Place) (d : Deployment) (count : ℕ) → in_header place ≡ true → count ≡ 0 → EventsStand place d count []
events_in_header places.Version d count h uncounted = (refl, uncounted)
events_in_header places.Certifier d count h uncounted = (refl, uncounted)
events_in_header places.Shards d count h uncounted = (refl, uncounted)
events_in_header places.Parts d count h uncounted = (refl, uncounted)
events_in_header places.Events d count h uncounted = absurd cc
events_in_header places.Ended d count h uncounted = absurd cc

-- the last line of the header
begun_step : (d : Deployment) (count : ℕ) (line : List ℕ) → IsDeployment d → head_lines places.Events d ≡ head_lines places.Parts d ++ line ∷ [] → count ≡ 0
    → Step (at places.Parts d count) [] line (items.Begun d, at places.Events d count)
begun_step d count line is lines uncounted = record {
  more = [];
  stands = record { head = is; events = (tt, uncounted, omega arith) };
  lines = append-nil (setup_lines d) ∙ lines;
  items = refl;
}

some_step : (place to : Place) (before whole d : Deployment) (count : ℕ) (line : List ℕ) → place ≡ places.Parts → to ≡ places.Events → d ≡ whole → before ≡ whole
    → HeadStands to whole → head_lines to whole ≡ head_lines place before ++ line ∷ [] → count ≡ 0
    → Step (at place before count) [] line (items.Begun d, at to whole count)
some_step place to before whole d count line p q r s stands lines uncounted =
    subst (λ (pl : Place). Step (at pl before count) [] line (items.Begun d, at to whole count)) (sym p)
    (subst (λ (t : Place). Step (at places.Parts before count) [] line (items.Begun d, at t whole count)) (sym q)
    (subst (λ (f : Deployment). Step (at places.Parts before count) [] line (items.Begun f, at places.Events whole count)) (sym r)
    (subst (λ (f : Deployment). Step (at places.Parts f count) [] line (items.Begun whole, at places.Events whole count)) (sym s)
    (begun_step whole count line (subst (λ (t : Place). HeadStands t whole) q stands)
    (subst (λ (t : Place). head_lines t whole ≡ head_lines places.Parts whole ++ line ∷ []) q
    (subst (λ (pl : Place). head_lines to whole ≡ head_lines pl whole ++ line ∷ []) p
    (subst (λ (f : Deployment). head_lines to whole ≡ head_lines place f ++ line ∷ []) s lines))) uncounted))))

none_step : (place to : Place) (before whole : Deployment) (count : ℕ) (line : List ℕ) → in_header place ≡ true → in_header to ≡ true
    → HeadStands to whole → head_lines to whole ≡ head_lines place before ++ line ∷ [] → count ≡ 0
    → Step (at place before count) [] line (items.Header, at to whole count)
none_step place to before whole count line from into stands lines uncounted = record {
  more = [];
  stands = record { head = stands; events = events_in_header to whole count into uncounted };
  lines = lines_in_header to whole into ∙ lines ∙ ap (λ (ls : List (List ℕ)). ls ++ line ∷ []) (sym (lines_in_header place before from));
  items = items_in_header to whole into ∙ ap headed lines ∙ map_end (λ (l : List ℕ). items.Header) (head_lines place before) line
      ∙ ap (λ (is : List LineItem). is ++ items.Header ∷ []) (sym (items_in_header place before from));
}

item_step : (place to : Place) (before whole : Deployment) (item : Option Deployment) (count : ℕ) (line : List ℕ) → in_header place ≡ true
    → HeadItem item place to before whole → HeadStands to whole → head_lines to whole ≡ head_lines place before ++ line ∷ [] → count ≡ 0
    → Step (at place before count) [] line (head_item item, at to whole count)
item_step place to before whole None count line from into stands lines uncounted = none_step place to before whole count line from into stands lines uncounted
item_step place to before whole (Some d) count line from is stands lines uncounted = some_step place to before whole d count line is.0 is.1 is.2 is.3 stands lines uncounted

header_step : (place : Place) (d : Deployment) (count : ℕ) (line : List ℕ) (x : LineItem × Progress) → in_header place ≡ true → HeadStands place d → count ≡ 0
    → header_line_at (at place d count) (words_of line) ≡ Ok x → Step (at place d count) [] line x
unfolding header_line_at
header_step place d count line x from stands uncounted h =
    let a = bind_ok (head_at None place d (words_of line)) _ x h in
    let t = head_takes None place d line a.0 stands a.1 in
    subst (Step (at place d count) [] line) (ok_is (head_item a.0.0, record { head = a.0.1; count = count }) x a.2)
    (item_step place a.0.1.place d a.0.1.setup a.0.0 count line from t.item t.stands t.lines uncounted)

-- ---- lines after the header

all_push : {X : Type 0} (P : X → Type 0) (xs : List X) (x : X) → AllByRecursion P xs → P x → AllByRecursion P (xs ++ x ∷ [])
all_push P [] x all p = (p, tt)
all_push P (y ∷ ys) x all p = (all.0, all_push P ys x all.1 p)

pub small_setup : (d : Deployment) → IsDeployment d → Small d
small_setup d is =
    let nodes = is.few_nodes in
    let shards = is.few_shards in
    record { nodes = omega arith; shards = omega arith }

end_step : (d : Deployment) (count : ℕ) (es : List Event) (line : List ℕ) (x : LineItem × Progress) → Stands (at places.Events d count) es → begins (codes "end") (words_of line) ≡ true
    → end_line_at (at places.Events d count) (after (words_of line)) ≡ Ok x → Step (at places.Events d count) es line x
unfolding end_line_at
end_step d count es line x stands first h =
    let a = bind_ok (end_at (after (words_of line))) _ x h in
    let words : words_of line ≡ codes "end" ∷ [] = begun (codes "end") (words_of line) first ∙ ap (λ (ws : List (List ℕ)). codes "end" ∷ ws) (end_takes (after (words_of line)) a.0 a.1) in
    let same : line ≡ codes "end" = same_words line (codes "end") words in
    subst (Step (at places.Events d count) es line) (ok_is (items.End, at places.Ended d count) x a.2) (record {
      more = es;
      stands = record { head = stands.head; events = stands.events };
      lines = sym (append_assoc (setup_lines d) (map event_line es) (codes "end" ∷ [])) ∙ ap (λ (l : List ℕ). (setup_lines d ++ map event_line es) ++ l ∷ []) (sym same);
      items = sym (append_assoc (header_items d) (items.Begun d ∷ event_items es) (items.End ∷ []));
    })

event_added : (d : Deployment) (count : ℕ) (es : List Event) (e : Event) (line : List ℕ) → Stands (at places.Events d count) es → MayStand d e → line ≡ event_line e → count < EVENT_LIMIT
    → Step (at places.Events d count) es line (items.Event e, at places.Events d (count + 1))
event_added d count es e line stands may same room =
    let events = stands.events in
    let counted = events.1 in
    let many : length (es ++ e ∷ []) ≡ length es + 1 = length-append es (e ∷ []) in
    record {
      more = es ++ e ∷ [];
      stands = record { head = stands.head; events = (all_push (MayStand d) es e events.0 may, omega arith, omega arith) };
      lines = ap (λ (ls : List (List ℕ)). setup_lines d ++ ls) (map_end event_line es e) ∙ sym (append_assoc (setup_lines d) (map event_line es) (event_line e ∷ []))
          ∙ ap (λ (l : List ℕ). (setup_lines d ++ map event_line es) ++ l ∷ []) (sym same);
      items = ap (λ (is : List LineItem). header_items d ++ (items.Begun d ∷ is)) (map_end (λ (f : Event). items.Event f) es e)
          ∙ sym (append_assoc (header_items d) (items.Begun d ∷ event_items es) (items.Event e ∷ []));
    }

event_step : (d : Deployment) (count : ℕ) (es : List Event) (line : List ℕ) (v : Verb) (words : List (List ℕ)) (x : LineItem × Progress) → Stands (at places.Events d count) es
    → words_of line ≡ verb_word v ∷ words → counted_event_at (at places.Events d count) v words ≡ Ok x → Step (at places.Events d count) es line x
unfolding counted_event_at
event_step d count es line v words x stands first h =
    let c = chosen (nat_lt count EVENT_LIMIT) reasons.Many _ x h in
    let a = bind_ok (event_at None d v words) _ x c.1 in
    let t = event_takes None d v words a.0 stands.head.version a.1 in
    let line_is : line ≡ event_line a.0 =
    same_words line (event_line a.0) (first ∙ t.spelled ∙ sym (words_of_event a.0 (spellable d a.0 (small_setup d stands.head) t.is t.fits))) in
    let below = c.0 in
    let room : count < EVENT_LIMIT = grind (arith, nat_tests) in
    subst (Step (at places.Events d count) es line) (ok_is (items.Event a.0, at places.Events d (count + 1)) x a.2)
    (event_added d count es a.0 line stands (record { event = t.is; fits = t.fits }) line_is room)

verb_step : (d : Deployment) (count : ℕ) (es : List Event) (line : List ℕ) (words : List (List ℕ)) (x : LineItem × Progress) → Stands (at places.Events d count) es
    → words_of line ≡ words → verb_line_at (at places.Events d count) (first_verb words) (after words) ≡ Ok x → Step (at places.Events d count) es line x
verb_step d count es line [] x stands is h = absurd cc
verb_step d count es line (w ∷ ws) x stands is h = go (verb_of w) refl h where
  go : (o : Option Verb) → verb_of w ≡ o → verb_line_at (at places.Events d count) o ws ≡ Ok x → Step (at places.Events d count) es line x
  go (Some v) e k = event_step d count es line v ws x stands (is ∙ ap (λ (u : List ℕ). u ∷ ws) (verb_named w v e)) k
  go None e k = absurd cc

body_step : (d : Deployment) (count : ℕ) (es : List Event) (line : List ℕ) (x : LineItem × Progress) → Stands (at places.Events d count) es
    → event_line_at (at places.Events d count) (words_of line) ≡ Ok x → Step (at places.Events d count) es line x
unfolding event_line_at
body_step d count es line x stands h = go (begins (codes "end") (words_of line)) refl h where
  go : (b : Bool) → begins (codes "end") (words_of line) ≡ b
      → cond b (end_line_at (at places.Events d count) (after (words_of line))) (verb_line_at (at places.Events d count) (first_verb (words_of line)) (after (words_of line))) ≡ Ok x
      → Step (at places.Events d count) es line x
  go true e k = end_step d count es line x stands e k
  go false e k = verb_step d count es line (words_of line) x stands refl k

-- ---- any line

header_step_of : (place : Place) (d : Deployment) (count : ℕ) (es : List Event) (line : List ℕ) (x : LineItem × Progress) → in_header place ≡ true → HeadStands place d → es ≡ [] → count ≡ 0
    → header_line_at (at place d count) (words_of line) ≡ Ok x → Step (at place d count) es line x
header_step_of place d count es line x from stands none uncounted h =
    subst (λ (fs : List Event). Step (at place d count) fs line x) (sym none) (header_step place d count line x from stands uncounted h)

step_at : (place : Place) (d : Deployment) (count : ℕ) (es : List Event) (line : List ℕ) (x : LineItem × Progress) → Stands (at place d count) es
    → line_reading (at place d count) Whole line ≡ Ok x → Step (at place d count) es line x
step_at places.Version d count es line x stands h = header_step_of places.Version d count es line x refl stands.head stands.events.0 stands.events.1 h
step_at places.Certifier d count es line x stands h = header_step_of places.Certifier d count es line x refl stands.head stands.events.0 stands.events.1 h
step_at places.Shards d count es line x stands h = header_step_of places.Shards d count es line x refl stands.head stands.events.0 stands.events.1 h
step_at places.Parts d count es line x stands h = header_step_of places.Parts d count es line x refl stands.head stands.events.0 stands.events.1 h
step_at places.Events d count es line x stands h = body_step d count es line x stands h
step_at places.Ended d count es line x stands h = absurd cc

-- ---- all lines

-- lines are read, one after the other
pub record Read (p : Progress) (es : List Event) (lines : List (List ℕ)) (x : List LineItem × Progress) : Type 0 where
  pub more : List Event
  pub stands : Stands x.1 more
  pub lines_are : lines_at x.1.head.place x.1.head.setup more ≡ lines_at p.head.place p.head.setup es ++ lines
  pub items_are : items_at x.1.head.place x.1.head.setup more ≡ items_at p.head.place p.head.setup es ++ x.0

pub reads_take : (lines : List (List ℕ)) (p : Progress) (es : List Event) (x : List LineItem × Progress) → Stands p es → reads p lines ≡ Ok x → Read p es lines x
reads_take [] p es x stands h =
    subst (Read p es []) (ok_is ([], p) x h) (record {
      more = es;
      stands = stands;
      lines_are = sym (append-nil (lines_at p.head.place p.head.setup es));
      items_are = sym (append-nil (items_at p.head.place p.head.setup es));
    })
reads_take (line ∷ lines) p es x stands h =
    let a = bind_ok (line_reading p Whole line) _ x h in
    let b = bind_ok (reads a.0.1 lines) _ x a.2 in
    let s = step_at p.head.place p.head.setup p.count es line a.0 stands a.1 in
    let r = reads_take lines a.0.1 s.more b.0 s.stands b.1 in
    subst (Read p es (line ∷ lines)) (ok_is (a.0.0 ∷ b.0.0, b.0.1) x b.2) (record {
      more = r.more;
      stands = r.stands;
      lines_are = r.lines_are ∙ ap (λ (ls : List (List ℕ)). ls ++ lines) s.lines ∙ append_assoc (lines_at p.head.place p.head.setup es) (line ∷ []) lines;
      items_are = r.items_are ∙ ap (λ (is : List LineItem). is ++ b.0.0) s.items ∙ append_assoc (items_at p.head.place p.head.setup es) (a.0.0 ∷ []) b.0.0;
    })

pub start_stands : Stands at_start []
start_stands = record { head = (refl, refl); events = (refl, refl) }

ended : (place : Place) (d : Deployment) (count : ℕ) (es : List Event) (lines : List (List ℕ)) (is : List LineItem) → place ≡ places.Ended → Stands (at place d count) es
    → lines_at place d es ≡ lines → items_at place d es ≡ is → IsRead d count lines is
ended places.Version d count es lines is end stands l i = absurd cc
ended places.Certifier d count es lines is end stands l i = absurd cc
ended places.Shards d count es lines is end stands l i = absurd cc
ended places.Parts d count es lines is end stands l i = absurd cc
ended places.Events d count es lines is end stands l i = absurd cc
ended places.Ended d count es lines is end stands l i =
    record { events = es; schedule = record { setup = stands.head; events = stands.events.0; few = stands.events.2 }; counted = stands.events.1; lines_are = sym l; items_are = sym i }

pub read_to_the_end : (lines : List (List ℕ)) (is : List LineItem) (p : Progress) → reads at_start lines ≡ Ok (is, p) → p.head.place ≡ places.Ended → IsRead p.head.setup p.count lines is
read_to_the_end lines is p h end =
    let r = reads_take lines at_start [] (is, p) start_stands h in
    ended p.head.place p.head.setup p.count r.more lines is end r.stands r.lines_are r.items_are

begun_only : (place : Place) (d : Deployment) (count : ℕ) (es : List Event) (lines : List (List ℕ)) → place ≡ places.Events → Stands (at place d count) es → lines_at place d es ≡ lines → Begins d lines
begun_only places.Version d count es lines here stands l = absurd cc
begun_only places.Certifier d count es lines here stands l = absurd cc
begun_only places.Shards d count es lines here stands l = absurd cc
begun_only places.Parts d count es lines here stands l = absurd cc
begun_only places.Events d count es lines here stands l = record {
  events = es;
  schedule = record { setup = stands.head; events = stands.events.0; few = stands.events.2 };
  more = codes "end" ∷ [];
  whole = sym (append_assoc (setup_lines d) (map event_line es) (codes "end" ∷ [])) ∙ ap (λ (ls : List (List ℕ)). ls ++ codes "end" ∷ []) l;
}
begun_only places.Ended d count es lines here stands l = absurd cc

pub begins_a_schedule : (lines : List (List ℕ)) (is : List LineItem) (p : Progress) → reads at_start lines ≡ Ok (is, p) → p.head.place ≡ places.Events → Begins p.head.setup lines
begins_a_schedule lines is p h here =
    let r = reads_take lines at_start [] (is, p) start_stands h in
    begun_only p.head.place p.head.setup p.count r.more lines here r.stands r.lines_are
