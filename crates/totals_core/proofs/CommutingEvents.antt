-- From event to event of a schedule whose rule is that additions commute: nothing is written.
use Rattle.std.proofs.Common.{◌≡◌, inl, ℕ, ◌≤◌, List, [], ◌∷◌, ◌++◌, length, Option, Some, Ok, refl, sym, ◌∙◌, subst, arith}
use Rattle.tcs_terms.specs.declared.inputs.Event.{Event}
use Rattle.tcs_terms.specs.declared.setups.Rule.TheVariants as rules
use Rattle.tcs_terms.specs.Setups.{Deployment}
use Rattle.tcs_laws.specs.Certification.{Tests}
use Rattle.schedule_text.specs.declared.places.Place.TheVariants as places
use Rattle.schedule_text.specs.declared.reader.LineItem.{LineItem}
use Rattle.schedule_text.specs.declared.reader.LineItem.TheVariants as items
use Rattle.schedule_text.specs.Bytes.{events_on}
use Rattle.protocol.specs.Limit.{Progress as Run, Answer, limited_step}
use Rattle.protocol.specs.Limit.Answer.{Happens, SoupFull}
use Rattle.protocol_laws.specs.Promises.{world_of}
use Rattle.world.specs.declared.happenings.Happening.{Happening}
use Rattle.world.specs.WorldState.{Tells as WorldTells, events_of}
use Rattle.replay_core.specs.declared.reading.Reading.{Reading}
use Rattle.replay_core.specs.declared.stops.ReplayStop.{ReplayStop}
use Rattle.replay_core.specs.declared.stops.ReplayStop.TheVariants as stops
use Rattle.replay_core.specs.Replays.{shown}
use Rattle.replay_core.specs.Standing.{HasRead, IsAt, RunsAt, StandsBegun, StopsStepping, Takes, Refuses}
use Rattle.replay_core.specs.Steps.{Tells}
use Rattle.replay_core.proofs.Finishing.{at_end}
use Rattle.replay_core.proofs.Going.{ended, new_standing, stops_stepping, whole_line}
use Rattle.replay_core.proofs.Promised.{kept, are_events}
use Rattle.replay_core.proofs.Steps.{stepped, written}
use Rattle.replay_core.proofs.Taking.{in_hand, reads_on}
use Rattle.replay_core.proofs.Working.{kept_of, stands_stepped}
use Rattle.totals_core.specs.Progressing.{GoesOn, HasRun, StopsNow}
use Rattle.totals_core.specs.Totalling.{ReadOn}
use Rattle.totals_core.proofs.RuleLines.{rule_stays}
use Rattle.totals_core.proofs.Stopping.{no_other_read, read_on_in_hand, some_is, stops_reading}

-- a world tells the result of a step as a replay does
tells_same : (h : Happening) (a : Answer) → WorldTells (Ok h) a → Tells (Ok h.result) a
tells_same h (Happens result notes sent) x = x.0
tells_same h (SoupFull bytes) x = x

module _ (tests : Tests) where
  -- the run stands behind an event that was stepped
  pub stepped_on : (setup setup' : Deployment) (p p' : Run) (d : Deployment) (es : List Event) (e : Event) (h : Happening) → RunsAt tests setup p d es
      → WorldTells (Ok h) (limited_step tests setup.version p e).answer → p' ≡ (limited_step tests setup.version p e).after → setup' ≡ setup → RunsAt tests setup' p' d (es ++ e ∷ [])
  stepped_on setup setup' p p' d es e h r tells after same =
      let noted = length (world_of p).history in
      let sent = length (world_of p).messages in
      (stepped tests setup setup' p p' d es e h.result (events_of p') noted sent (written (events_of p') noted sent h.result (world_of p')) r
      (tells_same h (limited_step tests setup.version p e).answer tells) after same refl refl refl refl).1

  pub goes_at_first : (r : Reading) (setup : Deployment) (p : Run) (left : Option (List ℕ)) (is : List LineItem) → StandsBegun tests places.Events r setup p is → 2 ≤ r.number
      → r.reader.head.setup.rule ≡ rules.Commute → GoesOn tests r left is r setup p left
  goes_at_first r setup p left is s many commute = record { items = is; stands = s; many = many; commute = commute; at = λ bytes h. h }

  -- a line behind the line `events` leaves the rule as it is
  stays : (old new : Reading) (setup : Deployment) (p : Run) (is : List LineItem) (item : LineItem) (left left' : Option (List ℕ)) → StandsBegun tests places.Events old setup p is
      → 2 ≤ old.number → old.reader.head.setup.rule ≡ rules.Commute → Takes old new item left left' → new.reader.head.setup.rule ≡ rules.Commute
  stays old new setup p is item left left' s many commute t =
      let w = whole_line tests old new setup p is item left left' s t in
      rule_stays s.standing.lines is old.reader new.reader w.line item s.standing.read (omega (arith, many, s.standing.counted)) w.read ∙ commute

  pub goes_on : (first old new : Reading) (setup setup' : Deployment) (p p' : Run) (left0 left left' : Option (List ℕ)) (is : List LineItem) (e : Event) → (g : GoesOn tests first left0 is old setup p left)
      → Takes old new (items.Event e) left left' → RunsAt tests setup' p' old.reader.head.setup (events_on g.items ++ e ∷ []) → GoesOn tests first left0 is new setup' p' left'
  goes_on first old new setup setup' p p' left0 left left' is e g t r =
      let n = new_standing tests old new setup p g.items (items.Event e) left left' g.stands t in
      let w = whole_line tests old new setup p g.items (items.Event e) left left' g.stands t in
      let many = g.many in
      record {
        items = g.items ++ items.Event e ∷ [];
        stands = stands_stepped tests old new setup setup' p p' g.items e g.stands n r;
        many = omega (arith, many, w.one_more);
        commute = stays old new setup p g.items (items.Event e) left left' g.stands many g.commute t;
        at = λ bytes h. reads_on bytes old new g.items (items.Event e) left left' (g.at bytes h) w;
      }

  -- ---- stops

  pub stops_taking : (bytes : List ℕ) (first old : Reading) (setup : Deployment) (p : Run) (left0 left left' : Option (List ℕ)) (is : List LineItem) (stop : ReplayStop)
      → (g : GoesOn tests first left0 is old setup p left) → HasRead bytes first left0 is → Refuses old left left' stop → StopsNow bytes left' stop
  stops_taking bytes first old setup p left0 left left' is stop g h x =
      stops_reading bytes old left left' g.items stop (g.at bytes h) (kept_of tests places.Events old setup p g.items g.stands) (λ many. g.commute) x

  pub stops_at_step : (bytes : List ℕ) (first old new : Reading) (setup : Deployment) (p : Run) (left0 left left' : Option (List ℕ)) (is : List LineItem) (e : Event) (stop : ReplayStop)
      → (g : GoesOn tests first left0 is old setup p left) → HasRead bytes first left0 is → Takes old new (items.Event e) left left' → StopsStepping old.reader.head.setup (events_on g.items) e stop
      → StopsNow bytes left' stop
  stops_at_step bytes first old new setup p left0 left left' is e stop g h t x = go stop x where
    now : HasRead bytes old left g.items
    now = g.at bytes h

    at : IsAt bytes [] old left (Some (shown g.items)) g.items
    at = record { read = now; holds = refl }

    go : (stop : ReplayStop) → StopsStepping old.reader.head.setup (events_on g.items) e stop → StopsNow bytes left' stop
    go (stops.Bad number reason) y = absurd y
    go stops.ReadFault y = absurd y
    go stops.WriteFault y = absurd y
    go (stops.Full sum) y =
        let ends = stops_stepping bytes [] tests old new setup p g.items e left (Some (shown g.items)) left' (stops.Full sum) g.stands at t y in
        (ends.rest, ends.told, (refl, no_other_read bytes old left g.items now g.many g.commute, (ends.written, ends.stopped)))
    go stops.OutOfMemory y =
        let ends = stops_stepping bytes [] tests old new setup p g.items e left (Some (shown g.items)) left' stops.OutOfMemory g.stands at t y in
        let hand = in_hand bytes old new g.items (items.Event e) left left' now (whole_line tests old new setup p g.items (items.Event e) left left' g.stands t) in
        (ends.rest, ends.told, inl (refl, subst (ReadOn bytes) (some_is hand.rest ends.rest (sym hand.told ∙ ends.told)) (read_on_in_hand bytes old left left' g.items g.items (items.Event e) now g.many g.commute hand), (ends.written, ends.stopped)))

  -- ---- the end

  -- the line `end` was taken
  pub record Ended (r : Reading) (left : Option (List ℕ)) (first : Reading) (left0 : Option (List ℕ)) (is : List LineItem) (setup : Deployment) (p : Run) : Type 0 where
    pub items : List LineItem
    pub stands : StandsBegun tests places.Ended r setup p items
    pub commute : r.reader.head.setup.rule ≡ rules.Commute
    pub at : (bytes : List ℕ) → HasRead bytes first left0 is → HasRead bytes r left items

  pub ends : (first old new : Reading) (setup : Deployment) (p : Run) (left0 left left' : Option (List ℕ)) (is : List LineItem) → GoesOn tests first left0 is old setup p left
      → Takes old new items.End left left' → Ended new left' first left0 is setup p
  ends first old new setup p left0 left left' is g t = record {
    items = g.items ++ items.End ∷ [];
    stands = ended tests old new setup p g.items left left' g.stands t;
    commute = stays old new setup p g.items items.End left left' g.stands g.many g.commute t;
    at = λ bytes h. reads_on bytes old new g.items items.End left left' (g.at bytes h) (whole_line tests old new setup p g.items items.End left left' g.stands t);
  }

  pub stops_at_end : (bytes : List ℕ) (r first : Reading) (left left' left0 : Option (List ℕ)) (is : List LineItem) (setup : Deployment) (p : Run) (stop : ReplayStop) → (x : Ended r left first left0 is setup p)
      → HasRead bytes first left0 is → Refuses r left left' stop → StopsNow bytes left' stop
  stops_at_end bytes r first left left' left0 is setup p stop x h refused =
      stops_reading bytes r left left' x.items stop (x.at bytes h) (kept_of tests places.Ended r setup p x.items x.stands) (λ many. x.commute) refused

  pub has_run : (bytes : List ℕ) (r new first : Reading) (left left' left0 : Option (List ℕ)) (is : List LineItem) (setup : Deployment) (p : Run) (item : LineItem) → (x : Ended r left first left0 is setup p)
      → HasRead bytes first left0 is → Takes r new item left left' → HasRun bytes left' setup p
  has_run bytes r new first left left' left0 is setup p item x h t =
      let s = x.stands in
      let d = r.reader.head.setup in
      let a = at_end bytes r new left left' x.items item s.place (x.at bytes h) t in
      subst (λ (f : Deployment). HasRun bytes left' f p) (sym s.runs.of) (record {
        at_end = a.left_is;
        events = events_on x.items;
        text = a.text;
        commute = x.commute;
        kept = kept d (events_on x.items) (are_events r x.items s.standing s.begun) s.runs.within;
        so_far = s.runs.so_far;
      })
