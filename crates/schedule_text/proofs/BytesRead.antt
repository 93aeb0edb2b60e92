-- A reader that takes one line of some bytes after the other.
use Rattle.std.proofs.Common.{◌≡◌, ℕ, ◌+◌, ◌≤◌, List, [], ◌∷◌, ◌++◌, length, map, Ok, refl, sym, ◌∙◌, ap, subst, append_assoc, arith, codes}
use Rattle.std.specs.List.{flat_map, AllByRecursion}
use Rattle.std.proofs.lemmas.Grind.{flat_map-append}
use Rattle.std.proofs.lemmas.List.{append-nil, length-append, length-map}
use Rattle.tcs_terms.specs.declared.inputs.Event.{Event}
use Rattle.tcs_terms.specs.declared.limits.TheConstants.{MAX_NODES, MAX_SHARDS}
use Rattle.tcs_terms.specs.Runs.{MayStand}
use Rattle.tcs_terms.specs.Setups.{Deployment}
use Rattle.schedule_text.specs.declared.limits.TheConstants.{EVENT_LIMIT}
use Rattle.schedule_text.specs.declared.lines.Got.TheVariants.{Whole}
use Rattle.schedule_text.specs.declared.places.Place.{Place}
use Rattle.schedule_text.specs.declared.places.Place.TheVariants as places
use Rattle.schedule_text.specs.declared.reader.LineItem.{LineItem}
use Rattle.schedule_text.specs.declared.reader.LineItem.TheVariants as items
use Rattle.schedule_text.specs.Lines.{IsLine}
use Rattle.schedule_text.specs.Schedules.{Progress, at_start, line_reading}
use Rattle.schedule_text.specs.Text.{with_feed, setup_lines, first_lines, node_lines, config_line, event_line}
use Rattle.schedule_text.specs.Whole.{reads, schedule_items, header_items}
use Rattle.schedule_text.specs.Bytes.{Taken, IsNext, events_on, setups_on}
use Rattle.schedule_text.proofs.ScheduleReadings.{Stands, EventsStand, reads_take, start_stands, lines_at, items_at, headed, event_items}
use Rattle.schedule_text.proofs.HeaderReadings.{head_lines, HeadStands}
use Rattle.schedule_text.proofs.HeaderLines.{firsts_of}
use Rattle.schedule_text.proofs.ScheduleSpellings.{reads_one, reads_append}

-- ---- line by line

pub all_end : {X : Type 0} (P : X → Type 0) (xs : List X) (x : X) → AllByRecursion P xs → P x → AllByRecursion P (xs ++ x ∷ [])
all_end P [] x all p = (p, tt)
all_end P (y ∷ ys) x all p = (all.0, all_end P ys x all.1 p)

-- no line is taken yet
pub none_taken : (bytes : List ℕ) → Taken bytes [] [] at_start bytes
none_taken bytes = record { each = tt; front = refl; read = refl }

regroup : (a line b : List ℕ) → a ++ (line ++ 10 ∷ b) ≡ (a ++ (line ++ 10 ∷ [])) ++ b
regroup a line b = simp append_assoc

fronts : (lines : List (List ℕ)) (line rest : List ℕ) → flat_map with_feed lines ++ (line ++ 10 ∷ rest) ≡ flat_map with_feed (lines ++ line ∷ []) ++ rest
fronts lines line rest =
    regroup (flat_map with_feed lines) line rest
    ∙ ap (λ (b : List ℕ). b ++ rest) (sym (flat_map-append with_feed lines (line ∷ []) ∙ ap (λ (b : List ℕ). flat_map with_feed lines ++ b) (append-nil (line ++ 10 ∷ []))))

-- lines that were read, with one more
pub reads_more : (lines : List (List ℕ)) (is : List LineItem) (p q : Progress) (line : List ℕ) (item : LineItem) → reads at_start lines ≡ Ok (is, p)
    → line_reading p Whole line ≡ Ok (item, q) → reads at_start (lines ++ line ∷ []) ≡ Ok (is ++ item ∷ [], q)
reads_more lines is p q line item h k =
    reads_append lines (line ∷ []) at_start p is (item ∷ []) q h (reads_one p line item q [] [] q k refl)

-- the next line is taken
pub one_taken : (bytes : List ℕ) (lines : List (List ℕ)) (is : List LineItem) (p q : Progress) (behind line rest : List ℕ) (item : LineItem)
    → Taken bytes lines is p behind → IsNext behind Whole line rest → line_reading p Whole line ≡ Ok (item, q)
    → Taken bytes (lines ++ line ∷ []) (is ++ item ∷ []) q rest
one_taken bytes lines is p q behind line rest item t next h = record {
  each = all_end IsLine lines line t.each next.0;
  front = t.front ∙ ap (λ (b : List ℕ). flat_map with_feed lines ++ b) next.1 ∙ fronts lines line rest;
  read = reads_more lines is p q line item t.read h;
}

-- ---- the events and the setup on these lines

pub events_append : (is js : List LineItem) → events_on (is ++ js) ≡ events_on is ++ events_on js
events_append [] js = refl
events_append (items.Header ∷ is) js = events_append is js
events_append (items.Begun d ∷ is) js = events_append is js
events_append (items.Event e ∷ is) js = ap (λ (es : List Event). e ∷ es) (events_append is js)
events_append (items.End ∷ is) js = events_append is js

pub setups_append : (is js : List LineItem) → setups_on (is ++ js) ≡ setups_on is ++ setups_on js
setups_append [] js = refl
setups_append (items.Header ∷ is) js = setups_append is js
setups_append (items.Begun d ∷ is) js = ap (λ (ds : List Deployment). d ∷ ds) (setups_append is js)
setups_append (items.Event e ∷ is) js = setups_append is js
setups_append (items.End ∷ is) js = setups_append is js

no_events_in : (lines : List (List ℕ)) → events_on (headed lines) ≡ []
no_events_in [] = refl
no_events_in (line ∷ lines) = no_events_in lines

no_setups_in : (lines : List (List ℕ)) → setups_on (headed lines) ≡ []
no_setups_in [] = refl
no_setups_in (line ∷ lines) = no_setups_in lines

events_of_items : (es : List Event) → events_on (event_items es) ≡ es
events_of_items [] = refl
events_of_items (e ∷ es) = ap (λ (fs : List Event). e ∷ fs) (events_of_items es)

setups_of_events : (es : List Event) → setups_on (event_items es) ≡ []
setups_of_events [] = refl
setups_of_events (e ∷ es) = setups_of_events es

abbrev header_of : Deployment → List (List ℕ)
header_of d = first_lines d ++ (node_lines 1 d.nodes ++ map config_line d.configs)

-- where the line `events` was taken, the setup is whole
abbrev pub setups_by : Place → Deployment → List Deployment
setups_by places.Version d = []
setups_by places.Certifier d = []
setups_by places.Shards d = []
setups_by places.Parts d = []
setups_by places.Events d = d ∷ []
setups_by places.Ended d = d ∷ []

events_begun : (d : Deployment) (es : List Event) → events_on (header_items d ++ (items.Begun d ∷ event_items es)) ≡ es
events_begun d es =
    events_append (header_items d) (items.Begun d ∷ event_items es)
    ∙ ap (λ (fs : List Event). fs ++ events_on (event_items es)) (no_events_in (header_of d)) ∙ events_of_items es

setups_begun : (d : Deployment) (es : List Event) → setups_on (header_items d ++ (items.Begun d ∷ event_items es)) ≡ d ∷ []
setups_begun d es =
    setups_append (header_items d) (items.Begun d ∷ event_items es)
    ∙ ap (λ (ds : List Deployment). ds ++ (d ∷ setups_on (event_items es))) (no_setups_in (header_of d)) ∙ ap (λ (ds : List Deployment). d ∷ ds) (setups_of_events es)

ended_items : (d : Deployment) (es : List Event) → schedule_items d es ≡ (header_items d ++ (items.Begun d ∷ event_items es)) ++ items.End ∷ []
ended_items d es = sym (append_assoc (header_items d) (items.Begun d ∷ event_items es) (items.End ∷ []))

pub events_of_schedule : (d : Deployment) (es : List Event) → events_on (schedule_items d es) ≡ es
events_of_schedule d es =
    ap events_on (ended_items d es) ∙ events_append (header_items d ++ (items.Begun d ∷ event_items es)) (items.End ∷ []) ∙ append-nil _ ∙ events_begun d es

pub setups_of_schedule : (d : Deployment) (es : List Event) → setups_on (schedule_items d es) ≡ d ∷ []
setups_of_schedule d es =
    ap setups_on (ended_items d es) ∙ setups_append (header_items d ++ (items.Begun d ∷ event_items es)) (items.End ∷ []) ∙ append-nil _ ∙ setups_begun d es

events_at : (place : Place) (d : Deployment) (count : ℕ) (es : List Event) → EventsStand place d count es → events_on (items_at place d es) ≡ es
events_at places.Version d count es h = sym h.0
events_at places.Certifier d count es h = sym h.0
events_at places.Shards d count es h = sym h.0
events_at places.Parts d count es h = no_events_in (head_lines places.Parts d) ∙ sym h.0
events_at places.Events d count es h = events_begun d es
events_at places.Ended d count es h = events_of_schedule d es

setups_at : (place : Place) (d : Deployment) (es : List Event) → setups_on (items_at place d es) ≡ setups_by place d
setups_at places.Version d es = refl
setups_at places.Certifier d es = refl
setups_at places.Shards d es = refl
setups_at places.Parts d es = no_setups_in (head_lines places.Parts d)
setups_at places.Events d es = setups_begun d es
setups_at places.Ended d es = setups_of_schedule d es

-- what is known of a reader that has read these lines
pub record Known (p : Progress) (lines : List (List ℕ)) (is : List LineItem) : Type 0 where
  pub stands : Stands p (events_on is)
  pub lines_are : lines ≡ lines_at p.head.place p.head.setup (events_on is)
  pub setups : setups_on is ≡ setups_by p.head.place p.head.setup

pub known : (lines : List (List ℕ)) (is : List LineItem) (p : Progress) → reads at_start lines ≡ Ok (is, p) → Known p lines is
known lines is p h =
    let r = reads_take lines at_start [] (is, p) start_stands h in
    let events : events_on is ≡ r.more = ap events_on (sym r.items_are) ∙ events_at p.head.place p.head.setup p.count r.more r.stands.events in
    record {
      stands = subst (Stands p) (sym events) r.stands;
      lines_are = sym r.lines_are ∙ ap (lines_at p.head.place p.head.setup) (sym events);
      setups = ap setups_on (sym r.items_are) ∙ setups_at p.head.place p.head.setup r.more;
    }

-- and what the lines are
pub read_items : (lines : List (List ℕ)) (is : List LineItem) (p : Progress) → reads at_start lines ≡ Ok (is, p) → items_at p.head.place p.head.setup (events_on is) ≡ is
read_items lines is p h =
    let r = reads_take lines at_start [] (is, p) start_stands h in
    let events : events_on is ≡ r.more = ap events_on (sym r.items_are) ∙ events_at p.head.place p.head.setup p.count r.more r.stands.events in
    ap (items_at p.head.place p.head.setup) events ∙ r.items_are

-- ---- how many lines

-- so many lines a reader has taken
abbrev pub lines_by : Place → Deployment → ℕ → ℕ
lines_by places.Version d count = 0
lines_by places.Certifier d count = 1
lines_by places.Shards d count = 2
lines_by places.Parts d count = 3 + length d.nodes + length d.configs
lines_by places.Events d count = 4 + length d.nodes + length d.configs + count
lines_by places.Ended d count = 5 + length d.nodes + length d.configs + count

many_nodes : (node : ℕ) (ss : List ℕ) → length (node_lines node ss) ≡ length ss
many_nodes node [] = refl
many_nodes node (s ∷ ss) = omega (arith, many_nodes (node + 1) ss)

many_parts : (d : Deployment) → length (head_lines places.Parts d) ≡ 3 + length d.nodes + length d.configs
many_parts d =
    omega (
      arith,
      length-append (first_lines d) (node_lines 1 d.nodes ++ map config_line d.configs),
      length-append (node_lines 1 d.nodes) (map config_line d.configs),
      many_nodes 1 d.nodes,
      length-map d.configs config_line,
    )

many_setup : (d : Deployment) → length (setup_lines d) ≡ 4 + length d.nodes + length d.configs
unfolding setup_lines
many_setup d =
    omega (
      arith,
      length-append (first_lines d) (node_lines 1 d.nodes ++ (map config_line d.configs ++ codes "events" ∷ [])),
      length-append (node_lines 1 d.nodes) (map config_line d.configs ++ codes "events" ∷ []),
      length-append (map config_line d.configs) (codes "events" ∷ []),
      many_nodes 1 d.nodes,
      length-map d.configs config_line,
    )

lines_counted : (place : Place) (d : Deployment) (count : ℕ) (es : List Event) → EventsStand place d count es → length (lines_at place d es) ≡ lines_by place d count
unfolding setup_lines
lines_counted places.Version d count es h = refl
lines_counted places.Certifier d count es h = refl
lines_counted places.Shards d count es h = refl
lines_counted places.Parts d count es h = many_parts d
lines_counted places.Events d count es h = omega (arith, length-append (setup_lines d) (map event_line es), many_setup d, length-map es event_line, h.1)
lines_counted places.Ended d count es h =
    omega (arith, length-append (setup_lines d) (map event_line es ++ codes "end" ∷ []), length-append (map event_line es) (codes "end" ∷ []), many_setup d, length-map es event_line, h.1)

few_by : (place : Place) (d : Deployment) (count : ℕ) (es : List Event) → HeadStands place d → EventsStand place d count es → lines_by place d count ≤ 5 + MAX_NODES + MAX_SHARDS + EVENT_LIMIT
few_by places.Version d count es h e = omega arith
few_by places.Certifier d count es h e = omega arith
few_by places.Shards d count es h e = omega arith
few_by places.Parts d count es h e = omega (arith, h.1, h.2, h.3)
few_by places.Events d count es h e = omega (arith, h.few_nodes, h.few_shards, (firsts_of d h).0, e.1, e.2)
few_by places.Ended d count es h e = omega (arith, h.few_nodes, h.few_shards, (firsts_of d h).0, e.1, e.2)

-- no reader takes more lines than these
pub few_lines : (lines : List (List ℕ)) (is : List LineItem) (p : Progress) → reads at_start lines ≡ Ok (is, p) → length lines ≤ 5 + MAX_NODES + MAX_SHARDS + EVENT_LIMIT
few_lines lines is p h =
    let k = known lines is p h in
    omega (
      arith,
      ap length k.lines_are,
      lines_counted p.head.place p.head.setup p.count (events_on is) k.stands.events,
      few_by p.head.place p.head.setup p.count (events_on is) k.stands.head k.stands.events,
    )

-- ---- what may stand

each_stands : (place : Place) (d : Deployment) (count : ℕ) (es : List Event) → EventsStand place d count es → AllByRecursion (MayStand d) es
each_stands places.Version d count es h = rw h.0 tt
each_stands places.Certifier d count es h = rw h.0 tt
each_stands places.Shards d count es h = rw h.0 tt
each_stands places.Parts d count es h = rw h.0 tt
each_stands places.Events d count es h = h.0
each_stands places.Ended d count es h = h.0

pub events_stand : (lines : List (List ℕ)) (is : List LineItem) (p : Progress) → reads at_start lines ≡ Ok (is, p) → AllByRecursion (MayStand p.head.setup) (events_on is)
events_stand lines is p h =
    let k = known lines is p h in
    each_stands p.head.place p.head.setup p.count (events_on is) k.stands.events
