-- Stops before anything was written.
use Rattle.std.proofs.Common.{◌≡◌, inl, ℕ, ◌+◌, ◌≤◌, List, ◌++◌, length, Option, Some, refl, sym, ◌∙◌, ap, subst, length-append, arith}
use Rattle.text_words.specs.declared.words.Reason.{Reason}
use Rattle.tcs_terms.specs.declared.setups.Rule.TheVariants as rules
use Rattle.schedule_text.specs.declared.reader.LineItem.{LineItem}
use Rattle.schedule_text.specs.Bytes.{FirstBad}
use Rattle.schedule_text.proofs.FirstBadLines.{goes_no_further, stuck_at_bad}
use Rattle.replay_core.specs.declared.reading.Reading.{Reading}
use Rattle.replay_core.specs.declared.stops.ReplayStop.{ReplayStop}
use Rattle.replay_core.specs.declared.stops.ReplayStop.TheVariants as stops
use Rattle.replay_core.specs.Replays.{KeptOn, shown}
use Rattle.replay_core.specs.Standing.{Breaks, HasRead, InHand, Refuses}
use Rattle.replay_core.proofs.Taking.{stops_at}
use Rattle.totals_core.specs.Progressing.{StopsNow}
use Rattle.totals_core.specs.Totalling.{NamesOther, ReadOn}
use Rattle.totals_core.proofs.RuleLines.{same_rule}

pub some_is : (xs ys : List ℕ) → ◌≡◌ {A = Option (List ℕ)} (Some xs) (Some ys) → xs ≡ ys
some_is xs ys e = cc

-- once two lines were read, the rule that a reader holds names no other
abbrev pub Commutes : Reading → Type 0
Commutes r = 2 ≤ r.number → r.reader.head.setup.rule ≡ rules.Commute

-- ---- no other rule is named

-- where two lines or more were read
pub no_other_read : (bytes : List ℕ) (r : Reading) (left : Option (List ℕ)) (is : List LineItem) → HasRead bytes r left is → 2 ≤ r.number → r.reader.head.setup.rule ≡ rules.Commute → NamesOther bytes → ⊥
no_other_read bytes r left is h many commute n =
    n.other (sym (same_rule bytes h.lines n.lines is n.items r.reader n.progress (r.lines ++ h.rest) n.behind h.taken n.taken (omega (arith, many, h.counted)) (omega (arith, n.two))) ∙ commute)

-- where this line is the first bad one
no_other_at_bad : (bytes : List ℕ) (old : Reading) (left : Option (List ℕ)) (is js : List LineItem) (number : ℕ) (reason : Reason) → HasRead bytes old left is → Commutes old
    → FirstBad bytes number reason js → number ≡ old.number + 1 → NamesOther bytes → ⊥
no_other_at_bad bytes old left is js number reason h commute bad counted n =
    let g = goes_no_further bytes bad.lines n.lines js n.items bad.progress n.progress bad.behind n.behind bad.taken n.taken
    (stuck_at_bad bad.progress bad.behind bad.got bad.line bad.rest reason bad.next bad.refused) in
    let many : 2 ≤ old.number = omega (arith, ap length g.lines, length-append n.lines g.more, n.two, bad.numbered, counted) in
    no_other_read bytes old left is h many (commute many) n

-- ---- what was worked through

read_on : (bytes : List ℕ) (old : Reading) (left left' : Option (List ℕ)) (is : List LineItem) (held : List ℕ) → (h : HasRead bytes old left is) → Commutes old → (b : Breaks old held left left')
    → (rest : List ℕ) → left' ≡ Some rest → ReadOn bytes rest
read_on bytes old left left' is held h commute b rest told =
    let k = b.keeps h.rest h.told in
    subst (ReadOn bytes) (some_is k.rest rest (sym k.told ∙ told)) (record {
      items = is;
      progress = old.reader;
      behind = old.lines ++ h.rest;
      worked = record { lines = h.lines; taken = h.taken; ahead = held; read = k.whole; few = b.few };
      commute = λ many. commute (omega (arith, many, h.counted));
    })

-- while a line is worked on
pub read_on_in_hand : (bytes : List ℕ) (r : Reading) (left left' : Option (List ℕ)) (js is : List LineItem) (item : LineItem) → HasRead bytes r left js → 2 ≤ r.number → r.reader.head.setup.rule ≡ rules.Commute
    → (x : InHand bytes left' is item) → ReadOn bytes x.rest
read_on_in_hand bytes r left left' js is item h many commute x = record {
  items = is;
  progress = x.progress;
  behind = x.behind;
  worked = x.worked;
  commute = λ more. same_rule bytes x.worked.lines h.lines is js x.progress r.reader x.behind (r.lines ++ h.rest) x.worked.taken h.taken more (omega (arith, many, h.counted)) ∙ commute;
}

-- ---- a line that is refused, or was not read whole

pub stops_reading : (bytes : List ℕ) (old : Reading) (left left' : Option (List ℕ)) (is : List LineItem) (stop : ReplayStop) → HasRead bytes old left is → KeptOn is → Commutes old → Refuses old left left' stop
    → StopsNow bytes left' stop
stops_reading bytes old left left' is (stops.Bad number reason) h kept commute x =
    let at = stops_at bytes old left left' is (stops.Bad number reason) h kept x in
    (at.rest, at.told, (refl, inl (no_other_at_bad bytes old left is at.stopped.items number reason h commute at.stopped.bad x.counted, (shown is, at.stopped))))
stops_reading bytes old left left' is stops.ReadFault h kept commute x =
    let at = stops_at bytes old left left' is stops.ReadFault h kept x in
    (at.rest, at.told, (refl, read_on bytes old left left' is x.0 h commute x.1 at.rest at.told, (shown is, at.stopped)))
stops_reading bytes old left left' is stops.WriteFault h kept commute x = absurd x
stops_reading bytes old left left' is (stops.Full sum) h kept commute x = absurd x
stops_reading bytes old left left' is stops.OutOfMemory h kept commute x =
    let at = stops_at bytes old left left' is stops.OutOfMemory h kept x in
    (at.rest, at.told, inl (refl, read_on bytes old left left' is x.0 h commute x.1 at.rest at.told, (shown is, at.stopped)))
