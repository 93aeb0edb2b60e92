-- One line more: where a replay stands behind it, and what may be said where it is refused.
use Rattle.std.proofs.Common.{◌≡◌, ◌⊎◌, inl, inr, ℕ, ◌+◌, ◌≤◌, List, [], ◌∷◌, ◌++◌, length, Option, Some, Ok, Err, refl, sym, ◌∙◌, ap, subst, append_assoc, length-append, arith}
use Rattle.std.proofs.lemmas.List.{append-nil}
use Rattle.text_words.specs.declared.words.Reason.{Reason}
use Rattle.text_words.specs.declared.words.Reason.TheVariants as reasons
use Rattle.tcs_terms.specs.declared.limits.TheConstants.{MAX_NODES, MAX_SHARDS}
use Rattle.schedule_text.specs.declared.limits.TheConstants.{LINE_LIMIT, EVENT_LIMIT}
use Rattle.schedule_text.specs.declared.lines.Got.{Got}
use Rattle.schedule_text.specs.declared.lines.Got.TheVariants.{Whole, Cut, Long, Nothing}
use Rattle.schedule_text.specs.declared.places.Place.{Place}
use Rattle.schedule_text.specs.declared.places.Place.TheVariants as places
use Rattle.schedule_text.specs.declared.reader.LineItem.{LineItem}
use Rattle.schedule_text.specs.declared.reader.LineItem.TheVariants as items
use Rattle.schedule_text.specs.Bytes.{Taken, IsNext, FirstBad, events_on, setups_on}
use Rattle.schedule_text.specs.Lines.{IsLine, Fits, Divides, HandsOut, Keeps, has_feed, used}
use Rattle.schedule_text.specs.Schedules.{Progress, at_start, line_reading}
use Rattle.schedule_text.proofs.BytesRead.{one_taken, none_taken, reads_more, few_lines}
use Rattle.text_words.proofs.Steps.{not_both}
use Rattle.replay_core.specs.declared.reading.Reading.{Reading}
use Rattle.replay_core.specs.declared.stops.ReplayStop.{ReplayStop}
use Rattle.replay_core.specs.declared.stops.ReplayStop.TheVariants as stops
use Rattle.replay_core.specs.Replays.{KeptOn, Worked, InWork, StopsAtBad, StopsAtRead, StopsWithin, Stopped, shown}
use Rattle.replay_core.specs.Standing.{Takes, Misfits, Breaks, Refuses, Standing, HasRead, InHand}

-- ---- no more lines than there are numbers

pub few_taken : (r : Reading) (is : List LineItem) → Standing r is → r.number ≤ 5 + MAX_NODES + MAX_SHARDS + EVENT_LIMIT
few_taken r is s = omega (arith, s.counted, few_lines s.lines is r.reader s.read)

-- ---- a whole line

-- before the end only a whole line is taken
pub is_whole : (place : Place) (p : Progress) (got : Got) (line : List ℕ) (x : LineItem × Progress) → p.head.place ≡ place → (place ≡ places.Ended → ⊥) → line_reading p got line ≡ Ok x → got ≡ Whole
is_whole place p Whole line x at live h = refl
is_whole place p Cut line x at live h = absurd (not_both (line_reading p Cut line) x reasons.Missing h (missing place p line at live)) where
  missing : (place : Place) (p : Progress) (line : List ℕ) → p.head.place ≡ place → (place ≡ places.Ended → ⊥) → line_reading p Cut line ≡ Err reasons.Missing
  missing places.Version p line at live = rw at refl
  missing places.Certifier p line at live = rw at refl
  missing places.Shards p line at live = rw at refl
  missing places.Parts p line at live = rw at refl
  missing places.Events p line at live = rw at refl
  missing places.Ended p line at live = absurd (live refl)
is_whole place p Long line x at live h = absurd (not_both (line_reading p Long line) x reasons.Long h (long place p line at live)) where
  long : (place : Place) (p : Progress) (line : List ℕ) → p.head.place ≡ place → (place ≡ places.Ended → ⊥) → line_reading p Long line ≡ Err reasons.Long
  long places.Version p line at live = rw at refl
  long places.Certifier p line at live = rw at refl
  long places.Shards p line at live = rw at refl
  long places.Parts p line at live = rw at refl
  long places.Events p line at live = rw at refl
  long places.Ended p line at live = absurd (live refl)
is_whole place p Nothing line x at live h = absurd (not_both (line_reading p Nothing line) x reasons.Missing h (missing place p line at live)) where
  missing : (place : Place) (p : Progress) (line : List ℕ) → p.head.place ≡ place → (place ≡ places.Ended → ⊥) → line_reading p Nothing line ≡ Err reasons.Missing
  missing places.Version p line at live = rw at refl
  missing places.Certifier p line at live = rw at refl
  missing places.Shards p line at live = rw at refl
  missing places.Parts p line at live = rw at refl
  missing places.Events p line at live = rw at refl
  missing places.Ended p line at live = absurd (live refl)

-- after it only nothing is
pub is_nothing : (p : Progress) (got : Got) (line : List ℕ) (x : LineItem × Progress) → p.head.place ≡ places.Ended → line_reading p got line ≡ Ok x → got ≡ Nothing
is_nothing p Whole line x at h = absurd (not_both (line_reading p Whole line) x reasons.Extra h (rw at refl))
is_nothing p Cut line x at h = absurd (not_both (line_reading p Cut line) x reasons.Extra h (rw at refl))
is_nothing p Long line x at h = absurd (not_both (line_reading p Long line) x reasons.Extra h (rw at refl))
is_nothing p Nothing line x at h = refl

-- ---- behind a line

-- a line that was taken before the end
pub record TakesWhole (old new : Reading) (item : LineItem) (left left' : Option (List ℕ)) : Type 0 where
  pub line : List ℕ
  pub fits : IsLine line
  pub read : line_reading old.reader Whole line ≡ Ok (item, new.reader)
  pub one_more : new.number ≡ old.number + 1
  pub ahead : length line + 1 + length new.lines ≤ LINE_LIMIT + 1
  pub hands : (rest : List ℕ) → left ≡ Some rest → HandsOut Whole (old.lines ++ rest) line new.lines left'

by_whole : (old new : Reading) (item : LineItem) (left left' : Option (List ℕ)) (got : Got) (line : List ℕ) → got ≡ Whole → Fits got line → line_reading old.reader got line ≡ Ok (item, new.reader)
    → new.number ≡ old.number + 1 → used got line + length new.lines ≤ LINE_LIMIT + 1 → ((rest : List ℕ) → left ≡ Some rest → HandsOut got (old.lines ++ rest) line new.lines left')
    → TakesWhole old new item left left'
by_whole old new item left left' Whole line is fits read more ahead hands = record { line = line; fits = fits; read = read; one_more = more; ahead = ahead; hands = hands }
by_whole old new item left left' Cut line is fits read more ahead hands = absurd cc
by_whole old new item left left' Long line is fits read more ahead hands = absurd cc
by_whole old new item left left' Nothing line is fits read more ahead hands = absurd cc

pub takes_whole : (old new : Reading) (item : LineItem) (left left' : Option (List ℕ)) → (old.reader.head.place ≡ places.Ended → ⊥) → Takes old new item left left' → TakesWhole old new item left left'
takes_whole old new item left left' live t =
    by_whole old new item left left' t.got t.line (is_whole old.reader.head.place old.reader t.got t.line (item, new.reader) refl live t.read) t.fits t.read t.one_more t.ahead t.hands

pub stands_on : (old new : Reading) (is : List LineItem) (item : LineItem) (left left' : Option (List ℕ)) → Standing old is → TakesWhole old new item left left' → Standing new (is ++ item ∷ [])
stands_on old new is item left left' s t = record {
  lines = s.lines ++ t.line ∷ [];
  read = reads_more s.lines is old.reader new.reader t.line item s.read t.read;
  counted = omega (arith, t.one_more, s.counted, length-append s.lines (t.line ∷ []));
  few = omega (arith, t.ahead);
}

pub reads_on : (bytes : List ℕ) (old new : Reading) (is : List LineItem) (item : LineItem) (left left' : Option (List ℕ)) → HasRead bytes old left is → TakesWhole old new item left left'
    → HasRead bytes new left' (is ++ item ∷ [])
reads_on bytes old new is item left left' r t =
    let h = t.hands r.rest r.told in
    record {
      rest = h.rest;
      told = h.told;
      lines = r.lines ++ t.line ∷ [];
      taken = one_taken bytes r.lines is old.reader new.reader (old.lines ++ r.rest) t.line (new.lines ++ h.rest) item r.taken (t.fits, h.divided) t.read;
      counted = omega (arith, t.one_more, r.counted, length-append r.lines (t.line ∷ []));
      few = omega (arith, t.ahead);
    }

-- while it is worked on
pub in_hand : (bytes : List ℕ) (old new : Reading) (is : List LineItem) (item : LineItem) (left left' : Option (List ℕ)) → HasRead bytes old left is → TakesWhole old new item left left'
    → InHand bytes left' is item
in_hand bytes old new is item left left' r t =
    let h = t.hands r.rest r.told in
    record {
      rest = h.rest;
      told = h.told;
      progress = old.reader;
      behind = old.lines ++ r.rest;
      worked = record {
        lines = r.lines;
        taken = r.taken;
        ahead = t.line ++ 10 ∷ new.lines;
        read = h.divided ∙ sym (append_assoc t.line (10 ∷ new.lines) h.rest);
        few = omega (arith, t.ahead, length-append t.line (10 ∷ new.lines));
      };
      line = record { line = t.line; rest = new.lines ++ h.rest; next = new.reader; stands = (t.fits, h.divided); read = t.read };
    }

-- ---- a line that is refused

-- the next line, with what is held before what is left
next_of : (got : Got) (all out held left : List ℕ) → Fits got out → Divides got all out held left → IsNext all got out (held ++ left)
next_of Whole all out held left fits d = (fits, d)
next_of Cut all out held left fits d = (fits, (d.0, refl, ap (λ (xs : List ℕ). xs ++ left) d.1 ∙ d.2))
next_of Long all out held left fits d = (fits, d)
next_of Nothing all out held left fits d = (fits, (d.0, refl, ap (λ (xs : List ℕ). xs ++ left) d.1 ∙ d.2))

-- what was read of it, and of what follows
abbrev ahead_of : Got → (out held : List ℕ) → List ℕ
ahead_of Whole out held = out ++ 10 ∷ held
ahead_of Cut out held = out ++ held
ahead_of Long out held = out ++ held
ahead_of Nothing out held = out ++ held

ahead_many : (got : Got) (out held : List ℕ) → length (ahead_of got out held) ≡ used got out + length held
ahead_many Whole out held = omega (arith, length-append out (10 ∷ held))
ahead_many Cut out held = length-append out held
ahead_many Long out held = length-append out held
ahead_many Nothing out held = length-append out held

ended_ahead : (all out held left : List ℕ) → all ≡ out → held ≡ [] → left ≡ [] → all ≡ (out ++ held) ++ left
ended_ahead all out held left is none end =
    is ∙ sym (append-nil out) ∙ sym (append-nil (out ++ []))
    ∙ ap (λ (xs : List ℕ). (out ++ xs) ++ []) (sym none) ∙ ap (λ (xs : List ℕ). (out ++ held) ++ xs) (sym end)

ahead_is : (got : Got) (all out held left : List ℕ) → Fits got out → Divides got all out held left → all ≡ ahead_of got out held ++ left
ahead_is Whole all out held left fits d = d ∙ sym (append_assoc out (10 ∷ held) left)
ahead_is Cut all out held left fits d = ended_ahead all out held left d.0 d.1 d.2
ahead_is Long all out held left fits d = d ∙ sym (append_assoc out held left)
ahead_is Nothing all out held left fits d = ended_ahead all out held left (d.0 ∙ sym fits) d.1 d.2

-- memory ran out while the line was taken
pub breaks_of : (old : Reading) (left left' : Option (List ℕ)) (got : Got) (line held : List ℕ) → Fits got line → used got line + length held ≤ LINE_LIMIT + 1
    → ((rest : List ℕ) → left ≡ Some rest → HandsOut got (old.lines ++ rest) line held left') → (kept : List ℕ) × Breaks old kept left left'
breaks_of old left left' got line held fits few hands = (
  ahead_of got line held,
  record {
    few = omega (arith, ahead_many got line held, few);
    keeps = λ rest told.
        let h = hands rest told in
        record { rest = h.rest; told = h.told; whole = ahead_is got (old.lines ++ rest) line held h.rest fits h.divided };
  },
)

-- a stop before the line in work was taken: nothing of it was written
pub record StopsAt (bytes : List ℕ) (left : Option (List ℕ)) (is : List LineItem) (stop : ReplayStop) : Type 0 where
  pub rest : List ℕ
  pub told : left ≡ Some rest
  pub stopped : Stopped bytes rest (shown is) stop

misfit : (bytes : List ℕ) (old : Reading) (left left' : Option (List ℕ)) (is : List LineItem) (number : ℕ) (reason : Reason) → HasRead bytes old left is → KeptOn is
    → Misfits old number reason left left' → StopsAt bytes left' is (stops.Bad number reason)
misfit bytes old left left' is number reason r kept m =
    let h = m.hands r.rest r.told in
    record {
      rest = h.rest;
      told = h.told;
      stopped = record {
        items = is;
        progress = old.reader;
        behind = old.lines ++ r.rest;
        worked = record {
          lines = r.lines;
          taken = r.taken;
          ahead = ahead_of m.got m.line m.held;
          read = ahead_is m.got (old.lines ++ r.rest) m.line m.held h.rest m.fits h.divided;
          few = omega (arith, ahead_many m.got m.line m.held, m.ahead);
        };
        bad = record {
          lines = r.lines;
          progress = old.reader;
          behind = old.lines ++ r.rest;
          taken = r.taken;
          numbered = omega (arith, m.counted, r.counted);
          got = m.got;
          line = m.line;
          rest = m.held ++ h.rest;
          next = next_of m.got (old.lines ++ r.rest) m.line m.held h.rest m.fits h.divided;
          refused = m.refused;
        };
        kept = kept;
        so_far = refl;
      };
    }

worked_at : (bytes : List ℕ) (old : Reading) (left left' : Option (List ℕ)) (is : List LineItem) (held : List ℕ) → (r : HasRead bytes old left is) → (b : Breaks old held left left')
    → Worked bytes (b.keeps r.rest r.told).rest is old.reader (old.lines ++ r.rest)
worked_at bytes old left left' is held r b = record { lines = r.lines; taken = r.taken; ahead = held; read = (b.keeps r.rest r.told).whole; few = b.few }

unread : (bytes : List ℕ) (old : Reading) (left left' : Option (List ℕ)) (is : List LineItem) (held : List ℕ) → HasRead bytes old left is → KeptOn is → Breaks old held left left' → IsLine held
    → StopsAt bytes left' is stops.ReadFault
unfolding worked_at
unread bytes old left left' is held r kept b line = record {
  rest = (b.keeps r.rest r.told).rest;
  told = (b.keeps r.rest r.told).told;
  stopped = record {
    items = is;
    progress = old.reader;
    behind = old.lines ++ r.rest;
    worked = worked_at bytes old left left' is held r b;
    unfinished = line.no_feed;
    kept = kept;
    so_far = refl;
  };
}

starved : (bytes : List ℕ) (old : Reading) (left left' : Option (List ℕ)) (is : List LineItem) (held : List ℕ) → HasRead bytes old left is → KeptOn is → Breaks old held left left'
    → StopsAt bytes left' is stops.OutOfMemory
starved bytes old left left' is held r kept b = record {
  rest = (b.keeps r.rest r.told).rest;
  told = (b.keeps r.rest r.told).told;
  stopped = record {
    items = is;
    progress = old.reader;
    behind = old.lines ++ r.rest;
    worked = worked_at bytes old left left' is held r b;
    kept = kept;
    part = [];
    so_far = sym (append-nil (shown is));
    most = inl refl;
  };
}

pub stops_at : (bytes : List ℕ) (old : Reading) (left left' : Option (List ℕ)) (is : List LineItem) (stop : ReplayStop) → HasRead bytes old left is → KeptOn is → Refuses old left left' stop
    → StopsAt bytes left' is stop
stops_at bytes old left left' is (stops.Bad number reason) r kept x = misfit bytes old left left' is number reason r kept x
stops_at bytes old left left' is stops.ReadFault r kept x = unread bytes old left left' is x.0 r kept x.1 x.2
stops_at bytes old left left' is stops.WriteFault r kept x = absurd x
stops_at bytes old left left' is (stops.Full sum) r kept x = absurd x
stops_at bytes old left left' is stops.OutOfMemory r kept x = starved bytes old left left' is x.0 r kept x.1

-- ---- before the first line

pub first_standing : (r : Reading) → r.lines ≡ [] → r.reader ≡ at_start → r.number ≡ 0 → Standing r []
first_standing r none start zero = record { lines = []; read = ap (λ (p : Progress). Ok ([], p)) (sym start); counted = zero; few = omega (arith, ap length none) }

pub first_read : (bytes : List ℕ) (r : Reading) (left : Option (List ℕ)) → r.lines ≡ [] → r.reader ≡ at_start → r.number ≡ 0 → left ≡ Some bytes → HasRead bytes r left []
first_read bytes r left none start zero told = record {
  rest = bytes;
  told = told;
  lines = [];
  taken = subst (λ (p : Progress). Taken bytes [] [] p (r.lines ++ bytes)) (sym start) (subst (λ (b : List ℕ). Taken bytes [] [] at_start (b ++ bytes)) (sym none) (none_taken bytes));
  counted = zero;
  few = omega (arith, ap length none);
}
