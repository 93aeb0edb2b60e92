-- What the last line was tells where a reader stands.
use Rattle.std.proofs.Common.{◌≡◌, ◌⊎◌, inl, inr, ℕ, List, [], ◌∷◌, ◌++◌, length, map, Option, Some, None, Ok, refl, sym, ◌∙◌, ap, subst, arith}
use Rattle.std.specs.List.{AllByRecursion}
use Rattle.tcs_terms.specs.declared.inputs.Event.{Event}
use Rattle.tcs_terms.specs.Setups.{Deployment}
use Rattle.schedule_text.specs.declared.places.Place.{Place}
use Rattle.schedule_text.specs.declared.places.Place.TheVariants as places
use Rattle.schedule_text.specs.declared.reader.LineItem.{LineItem}
use Rattle.schedule_text.specs.declared.reader.LineItem.TheVariants as items
use Rattle.schedule_text.specs.Schedules.{Progress, at_start}
use Rattle.schedule_text.specs.Whole.{reads, header_items, schedule_items}
use Rattle.schedule_text.specs.Bytes.{events_on, setups_on}
use Rattle.schedule_text.proofs.BytesRead.{Known, known, events_stand, setups_by, events_append, setups_append, read_items}
use Rattle.schedule_text.proofs.HeaderReadings.{head_lines}
use Rattle.schedule_text.proofs.ScheduleReadings.{items_at, headed, event_items}

-- ---- the last of a list

abbrev ending : List LineItem → Option LineItem
ending [] = None
ending (x ∷ []) = Some x
ending (x ∷ y ∷ xs) = ending (y ∷ xs)

ending_is : (xs : List LineItem) (x : LineItem) → ending (xs ++ x ∷ []) ≡ Some x
ending_is [] x = refl
ending_is (y ∷ []) x = refl
ending_is (y ∷ z ∷ xs) x = ending_is (z ∷ xs) x

ending_behind : (front : List LineItem) (y : LineItem) (ys : List LineItem) → ending (front ++ y ∷ ys) ≡ ending (y ∷ ys)
ending_behind [] y ys = refl
ending_behind (x ∷ []) y ys = refl
ending_behind (x ∷ z ∷ front) y ys = ending_behind (z ∷ front) y ys

some_is : (x y : LineItem) → ◌≡◌ {A = Option LineItem} (Some x) (Some y) → x ≡ y
some_is x y e = cc

none_is_some : (y : LineItem) → ◌≡◌ {A = Option LineItem} None (Some y) → ⊥
none_is_some y e = absurd cc

-- ---- of each place

-- the last line that a reader has taken at this place
abbrev pub EndsWith : Place → Deployment → LineItem → Type 0
EndsWith places.Version d item = item ≡ items.Header
EndsWith places.Certifier d item = item ≡ items.Header
EndsWith places.Shards d item = item ≡ items.Header
EndsWith places.Parts d item = item ≡ items.Header
EndsWith places.Events d item = (item ≡ items.Begun d) ⊎ ((e : Event) × (item ≡ items.Event e))
EndsWith places.Ended d item = item ≡ items.End

in_header : (lines : List (List ℕ)) (item : LineItem) → ending (headed lines) ≡ Some item → item ≡ items.Header
in_header [] item h = absurd (none_is_some item h)
in_header (line ∷ []) item h = sym (some_is items.Header item h)
in_header (line ∷ next ∷ lines) item h = in_header (next ∷ lines) item h

in_events : (es : List Event) (e : Event) (item : LineItem) → ending (event_items (e ∷ es)) ≡ Some item → (f : Event) × (item ≡ items.Event f)
in_events [] e item h = (e, sym (some_is (items.Event e) item h))
in_events (f ∷ es) e item h = in_events es f item h

behind_begun : (d : Deployment) (es : List Event) (item : LineItem) → ending (items.Begun d ∷ event_items es) ≡ Some item → (item ≡ items.Begun d) ⊎ ((e : Event) × (item ≡ items.Event e))
behind_begun d [] item h = inl (sym (some_is (items.Begun d) item h))
behind_begun d (e ∷ es) item h = inr (in_events es e item h)

ends_with : (place : Place) (d : Deployment) (es : List Event) (item : LineItem) → ending (items_at place d es) ≡ Some item → EndsWith place d item
ends_with places.Version d es item h = in_header (head_lines places.Version d) item h
ends_with places.Certifier d es item h = in_header (head_lines places.Certifier d) item h
ends_with places.Shards d es item h = in_header (head_lines places.Shards d) item h
ends_with places.Parts d es item h = in_header (head_lines places.Parts d) item h
ends_with places.Events d es item h = behind_begun d es item (sym (ending_behind (header_items d) (items.Begun d) (event_items es)) ∙ h)
ends_with places.Ended d es item h =
    sym (some_is items.End item (sym (ending_is (items.Begun d ∷ event_items es) items.End) ∙ sym (ending_behind (header_items d) (items.Begun d) (event_items es ++ items.End ∷ [])) ∙ h))

-- ---- one line more

-- what is known of a reader whose last line was this
pub record Last (q : Progress) (is : List LineItem) (item : LineItem) : Type 0 where
  pub ends : EndsWith q.head.place q.head.setup item
  pub setups : setups_on is ++ setups_on (item ∷ []) ≡ setups_by q.head.place q.head.setup
  pub events : events_on (is ++ item ∷ []) ≡ events_on is ++ events_on (item ∷ [])

pub last : (lines : List (List ℕ)) (is : List LineItem) (item : LineItem) (q : Progress) → reads at_start lines ≡ Ok (is ++ item ∷ [], q) → Last q is item
last lines is item q h =
    let k = known lines (is ++ item ∷ []) q h in
    record {
      ends = ends_with q.head.place q.head.setup (events_on (is ++ item ∷ [])) item (ap ending (read_items lines (is ++ item ∷ []) q h) ∙ ending_is is item);
      setups = sym (setups_append is (item ∷ [])) ∙ k.setups;
      events = events_append is (item ∷ []);
    }

-- ---- in the header

abbrev no_setups : List Deployment → List Deployment → Type 0
no_setups ds es = ds ≡ es

two_is_none : (d : Deployment) (ds : List Deployment) → d ∷ ds ≡ [] → ⊥
two_is_none d ds e = absurd (omega (arith, ap length e))

-- behind no setup, no line is an event's
pub no_event_first : (place : Place) (d : Deployment) (ds : List Deployment) (e : Event) → ds ≡ [] → EndsWith place d (items.Event e) → ds ++ [] ≡ setups_by place d → ⊥
no_event_first places.Version d ds e none ends is = absurd cc
no_event_first places.Certifier d ds e none ends is = absurd cc
no_event_first places.Shards d ds e none ends is = absurd cc
no_event_first places.Parts d ds e none ends is = absurd cc
no_event_first places.Events d ds e none ends is = two_is_none d [] (sym (sym (ap (λ (xs : List Deployment). xs ++ []) none) ∙ is))
no_event_first places.Ended d ds e none ends is = absurd cc

-- behind no setup, no line is the last one
pub no_end_first : (place : Place) (d : Deployment) (ds : List Deployment) → ds ≡ [] → EndsWith place d items.End → ds ++ [] ≡ setups_by place d → ⊥
no_end_first places.Version d ds none ends is = absurd cc
no_end_first places.Certifier d ds none ends is = absurd cc
no_end_first places.Shards d ds none ends is = absurd cc
no_end_first places.Parts d ds none ends is = absurd cc
no_end_first places.Events d ds none ends is = two_is_none d [] (sym (sym (ap (λ (xs : List Deployment). xs ++ []) none) ∙ is))
no_end_first places.Ended d ds none ends is = two_is_none d [] (sym (sym (ap (λ (xs : List Deployment). xs ++ []) none) ∙ is))

-- the line `events` leaves a reader there, with its setup
pub begun_place : (place : Place) (d f : Deployment) (ds : List Deployment) → ds ≡ [] → EndsWith place d (items.Begun f) → ds ++ f ∷ [] ≡ setups_by place d → (place ≡ places.Events) × (d ≡ f)
begun_place places.Version d f ds none ends is = absurd cc
begun_place places.Certifier d f ds none ends is = absurd cc
begun_place places.Shards d f ds none ends is = absurd cc
begun_place places.Parts d f ds none ends is = absurd cc
begun_place places.Events d f ds none ends is =
    let same : f ∷ [] ≡ d ∷ [] = sym (ap (λ (xs : List Deployment). xs ++ f ∷ []) none) ∙ is in
    (refl, sym (first_is f d same)) where
      first_is : (x y : Deployment) → x ∷ [] ≡ y ∷ [] → x ≡ y
      first_is x y e = cc
begun_place places.Ended d f ds none ends is = absurd cc

-- ---- behind it

-- a setup before, and this setup is that one
pub event_place : (place : Place) (d f : Deployment) (ds : List Deployment) (e : Event) → ds ≡ f ∷ [] → EndsWith place d (items.Event e) → ds ++ [] ≡ setups_by place d → (place ≡ places.Events) × (d ≡ f)
event_place places.Version d f ds e one ends is = absurd cc
event_place places.Certifier d f ds e one ends is = absurd cc
event_place places.Shards d f ds e one ends is = absurd cc
event_place places.Parts d f ds e one ends is = absurd cc
event_place places.Events d f ds e one ends is =
    let same : f ∷ [] ≡ d ∷ [] = sym (ap (λ (xs : List Deployment). xs ++ []) one) ∙ is in
    (refl, sym (first_is f d same)) where
      first_is : (x y : Deployment) → x ∷ [] ≡ y ∷ [] → x ≡ y
      first_is x y e = cc
event_place places.Ended d f ds e one ends is = absurd cc

pub end_place : (place : Place) (d f : Deployment) (ds : List Deployment) → ds ≡ f ∷ [] → EndsWith place d items.End → ds ++ [] ≡ setups_by place d → (place ≡ places.Ended) × (d ≡ f)
end_place places.Version d f ds one ends is = absurd cc
end_place places.Certifier d f ds one ends is = absurd cc
end_place places.Shards d f ds one ends is = absurd cc
end_place places.Parts d f ds one ends is = absurd cc
end_place places.Events d f ds one (inl same) is = absurd cc
end_place places.Events d f ds one (inr more) is = absurd (not_end more.0 more.1) where
  not_end : (e : Event) → items.End ≡ items.Event e → ⊥
  not_end e h = absurd cc
end_place places.Ended d f ds one ends is =
    let same : f ∷ [] ≡ d ∷ [] = sym (ap (λ (xs : List Deployment). xs ++ []) one) ∙ is in
    (refl, sym (first_is f d same)) where
      first_is : (x y : Deployment) → x ∷ [] ≡ y ∷ [] → x ≡ y
      first_is x y e = cc

-- behind a setup no line is one of a header
pub no_header_later : (place : Place) (d f : Deployment) (ds : List Deployment) → ds ≡ f ∷ [] → EndsWith place d items.Header → ds ++ [] ≡ setups_by place d → ⊥
no_header_later places.Version d f ds one ends is = two_is_none f [] (sym (ap (λ (xs : List Deployment). xs ++ []) one) ∙ is)
no_header_later places.Certifier d f ds one ends is = two_is_none f [] (sym (ap (λ (xs : List Deployment). xs ++ []) one) ∙ is)
no_header_later places.Shards d f ds one ends is = two_is_none f [] (sym (ap (λ (xs : List Deployment). xs ++ []) one) ∙ is)
no_header_later places.Parts d f ds one ends is = two_is_none f [] (sym (ap (λ (xs : List Deployment). xs ++ []) one) ∙ is)
no_header_later places.Events d f ds one (inl same) is = absurd cc
no_header_later places.Events d f ds one (inr more) is = absurd (not_header more.0 more.1) where
  not_header : (e : Event) → items.Header ≡ items.Event e → ⊥
  not_header e h = absurd cc
no_header_later places.Ended d f ds one ends is = absurd cc

few_setups : (place : Place) (d : Deployment) (ds : List Deployment) → ds ≡ setups_by place d → (e f : Deployment) → ds ≡ e ∷ f ∷ [] → ⊥
few_setups places.Version d ds is e f two = two_is_none e (f ∷ []) (sym two ∙ is)
few_setups places.Certifier d ds is e f two = two_is_none e (f ∷ []) (sym two ∙ is)
few_setups places.Shards d ds is e f two = two_is_none e (f ∷ []) (sym two ∙ is)
few_setups places.Parts d ds is e f two = two_is_none e (f ∷ []) (sym two ∙ is)
few_setups places.Events d ds is e f two = absurd (omega (arith, ap length (sym two ∙ is)))
few_setups places.Ended d ds is e f two = absurd (omega (arith, ap length (sym two ∙ is)))

-- and the setup is not made whole twice
pub no_second_setup : (place : Place) (d e f : Deployment) (ds : List Deployment) → ds ≡ e ∷ [] → ds ++ f ∷ [] ≡ setups_by place d → ⊥
no_second_setup place d e f ds one is = few_setups place d (ds ++ f ∷ []) is e f (ap (λ (xs : List Deployment). xs ++ f ∷ []) one)
