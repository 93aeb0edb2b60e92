-- The header of a schedule whose rule is that additions commute.
use Rattle.std.proofs.Common.{◌≡◌, ◌⊎◌, inl, inr, ℕ, ◌+◌, ◌<◌, ◌≤◌, List, [], ◌∷◌, ◌++◌, Option, refl, sym, ◌∙◌, ap, subst, arith}
use Rattle.std.proofs.Math.Nat.{eq-or-lt_of_le}
use Rattle.text_words.specs.declared.words.Reason.TheVariants as reasons
use Rattle.tcs_terms.specs.declared.setups.Rule.TheVariants as rules
use Rattle.tcs_terms.specs.Setups.{Deployment}
use Rattle.schedule_text.specs.declared.reader.LineItem.{LineItem}
use Rattle.schedule_text.specs.declared.reader.LineItem.TheVariants as items
use Rattle.schedule_text.specs.Bytes.{events_on, setups_on}
use Rattle.schedule_text.specs.Schedules.{at_start}
use Rattle.replay_core.specs.declared.reading.Reading.{Reading}
use Rattle.replay_core.specs.declared.stops.ReplayStop.{ReplayStop}
use Rattle.replay_core.specs.declared.stops.ReplayStop.TheVariants as stops
use Rattle.replay_core.specs.Replays.{KeptBy, KeptOn}
use Rattle.replay_core.specs.Standing.{Refuses, Takes}
use Rattle.replay_core.proofs.Heading.{first_header, whole_of, header_on, header_begun}
use Rattle.replay_core.proofs.Taking.{stands_on}
use Rattle.totals_core.specs.Progressing.{InCommuting, BegunCommuting, StopsUnwritten}
use Rattle.totals_core.specs.Totalling.{NamesOther}
use Rattle.totals_core.proofs.RuleLines.{rule_stays, many_begun}
use Rattle.totals_core.proofs.Stopping.{stops_reading}

pub commuting_first : (r : Reading) (left : Option (List ℕ)) → r.lines ≡ [] → r.reader ≡ at_start → r.number ≡ 0 → InCommuting r left left
commuting_first r left none start zero = record { header = first_header r left none start zero; commute = λ many. absurd (omega (arith, many, zero)) }

-- ---- one line more

-- it leaves the rule as it is, once there are two before it
stays : (old new : Reading) (item : LineItem) (first left left' : Option (List ℕ)) → InCommuting old first left → Takes old new item left left' → 2 ≤ old.number
    → new.reader.head.setup.rule ≡ rules.Commute
stays old new item first left left' h t many =
    let w = whole_of old new item first left left' h.header t in
    rule_stays h.header.standing.lines h.header.items old.reader new.reader w.line item h.header.standing.read (omega (arith, many, h.header.standing.counted)) w.read ∙ h.commute many

pub commuting_on : (old new : Reading) (first left left' : Option (List ℕ)) → InCommuting old first left → Takes old new items.Header left left' → (new.number ≡ 2 → new.reader.head.setup.rule ≡ rules.Commute)
    → InCommuting new first left'
commuting_on old new first left left' h t named = record { header = header_on old new first left left' h.header t; commute = λ many. go (eq-or-lt_of_le many) } where
  more : new.number ≡ old.number + 1
  more = (whole_of old new items.Header first left left' h.header t).one_more

  go : (2 ≡ new.number) ⊎ (2 < new.number) → new.reader.head.setup.rule ≡ rules.Commute
  go (inl e) = named (sym e)
  go (inr l) = stays old new items.Header first left left' h t (omega (arith, l, more))

pub commuting_begun : (old new : Reading) (d : Deployment) (first left left' : Option (List ℕ)) → InCommuting old first left → Takes old new (items.Begun d) left left' → BegunCommuting new first left' d
commuting_begun old new d first left left' h t =
    let w = whole_of old new (items.Begun d) first left left' h.header t in
    let b = header_begun old new d first left left' h.header t in
    let s = stands_on old new h.header.items (items.Begun d) left left' h.header.standing w in
    let three = many_begun s.lines (h.header.items ++ items.Begun d ∷ []) new.reader s.read b.place in
    let many : 2 ≤ old.number = omega (arith, three, s.counted, w.one_more) in
    record {
      begun = b;
      many = omega (arith, many, w.one_more);
      commute = ap (λ (f : Deployment). f.rule) b.setup ∙ stays old new (items.Begun d) first left left' h t many;
    }

-- ---- stops

kept_none : (is : List LineItem) → setups_on is ≡ [] → KeptOn is
kept_none is none = subst (λ (ds : List Deployment). KeptBy ds (events_on is)) (sym none) tt

pub commuting_stops : (old : Reading) (first left left' : Option (List ℕ)) (stop : ReplayStop) → InCommuting old first left → Refuses old left left' stop → StopsUnwritten first left' stop
commuting_stops old first left left' stop h x = λ bytes told.
    stops_reading bytes old left left' h.header.items stop (h.header.read bytes told) (kept_none h.header.items h.header.none) h.commute x

-- another rule is named
pub other_stops : (old new : Reading) (first left left' : Option (List ℕ)) → InCommuting old first left → Takes old new items.Header left left' → new.number ≡ 2 → (new.reader.head.setup.rule ≡ rules.Commute → ⊥)
    → StopsUnwritten first left' (stops.Bad 2 reasons.Word)
other_stops old new first left left' h t two other = λ bytes told.
    let n = header_on old new first left left' h.header t in
    let r = n.read bytes told in
    let names : NamesOther bytes = record {
      lines = r.lines;
      items = n.items;
      progress = new.reader;
      behind = new.lines ++ r.rest;
      taken = r.taken;
      two = omega (arith, r.counted, two);
      other = other;
    } in
    (r.rest, r.told, (refl, inr (refl, refl, record { names = names; ahead = new.lines; read = refl; few = r.few })))
