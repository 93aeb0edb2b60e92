-- Which answer comes: a text of commuting additions whose run keeps within the limit has no stop but want of memory; where
-- another rule is named, or a first line is bad, or a first event passes the limit, that stop alone comes.
use Rattle.std.proofs.Common.{◌≡◌, ◌⊎◌, inl, inr, ℕ, true, List, [], Option, Some, Result, Ok, Err, OnOk, IfErr, refl, sym, ◌∙◌, ap, arith}
use Rattle.std.specs.Prelude.{IsErrOf}
use Rattle.tcs_io.specs.Faults.{Rose}
use Rattle.tcs_terms.specs.declared.inputs.Event.{Event}
use Rattle.tcs_terms.specs.declared.setups.Rule.TheVariants as rules
use Rattle.text_words.specs.declared.words.Reason.{Reason}
use Rattle.text_words.specs.declared.words.Reason.TheVariants as reasons
use Rattle.tcs_terms.specs.Setups.{Deployment}
use Rattle.schedule_text.specs.declared.reader.LineItem.{LineItem}
use Rattle.schedule_text.specs.Bytes.{IsText, FirstBad}
use Rattle.schedule_text.proofs.FirstBadLines.{no_text_is_bad}
use Rattle.replay_core.specs.declared.stops.ReplayStop.{ReplayStop}
use Rattle.replay_core.specs.declared.stops.ReplayStop.TheVariants as stops
use Rattle.replay_core.specs.Trace.{run_of, is_live, trace}
use Rattle.replay_core.specs.Replays.{Ends as ReplayEnds, Finishes as ReplayFinishes, FirstFull, Stopped, WithinOn, Stayed, ReplaysFully, StopsBy}
use Rattle.replay_core.proofs.Completing.{completes, stops_at_bad, stops_at_full}
use Rattle.totals_core.specs.Totalling.{AsReplay, Ends, Finishes, NamesOther, StopsAtRule, Totals}
use Rattle.totals_core.proofs.RuleLines.{text_rule}

-- a text by the rule in which additions commute names no other
no_other_text : (bytes : List ℕ) (d : Deployment) (es : List Event) → IsText bytes d es → d.rule ≡ rules.Commute → NamesOther bytes → ⊥
no_other_text bytes d es t commute n =
    n.other (sym (text_rule bytes d es n.lines n.items n.progress n.behind t n.taken (omega (arith, n.two))) ∙ commute)

-- a stop that a replay would make as well, with a sink of its own
as_replay : (bytes left shown : List ℕ) (told : Option (List ℕ)) (stop : ReplayStop) → told ≡ Some left → Stopped bytes left shown stop → ReplayEnds bytes [] told (Some shown) stop
as_replay bytes left shown told stop is x = record { rest = left; told = is; written = shown; holds = refl; stopped = x }

-- an end to which a replay would come as well
as_finished : (bytes left written : List ℕ) (told : Option (List ℕ)) → told ≡ Some left → (t : Totals bytes left written) → ReplayFinishes bytes [] told (Some (trace t.setup t.events))
as_finished bytes left written told is t = record {
  rest = left;
  told = is;
  written = trace t.setup t.events;
  holds = refl;
  replays = record { setup = t.setup; events = t.events; text = t.text; kept = t.kept; at_end = t.at_end; whole = refl };
}

other_is : (number : ℕ) (reason : Reason) → number ≡ 2 → reason ≡ reasons.Word → stops.Bad number reason ≡ stops.Bad 2 reasons.Word
other_is number reason two word = ap (λ k. stops.Bad k reason) two ∙ ap (stops.Bad 2) word

module _ {X : Type 0} (bytes before : List ℕ) (left held : Option (List ℕ)) (a b m n : ℕ) where
  abbrev Fails : Result X ReplayStop → Type 0
  Fails result = IfErr result (Ends bytes before left held)

  abbrev Succeeds : Result X ReplayStop → Type 0
  Succeeds result = OnOk result (Finishes bytes before left held)

  abbrev Read : Result X ReplayStop → Type 0
  Read result = IsErrOf result stops.ReadFault → Rose a b

  abbrev Wrote : Result X ReplayStop → Type 0
  Wrote result = IsErrOf result stops.WriteFault → Rose m n

  pub complete : (d : Deployment) (es : List Event) (result : Result X ReplayStop) → Fails result → Read result → Wrote result → Stayed a b → Stayed m n → IsText bytes d es → d.rule ≡ rules.Commute
      → is_live (run_of d es) ≡ true → ReplaysFully result
  complete d es (Ok done) x read wrote calm quiet t commute live = tt
  complete d es (Err (stops.Bad number reason)) x read wrote calm quiet t commute live = go x.stopped.1 where
    go : ((NamesOther bytes → ⊥) × AsReplay bytes x.rest (stops.Bad number reason)) ⊎ ((number ≡ 2) × (reason ≡ reasons.Word) × StopsAtRule bytes x.rest)
        → ReplaysFully {X = X} (Err (stops.Bad number reason))
    go (inl y) = completes bytes [] left (Some y.1.0) a b m n d es (Err (stops.Bad number reason)) (as_replay bytes x.rest y.1.0 left (stops.Bad number reason) x.told y.1.1) read wrote calm quiet t live
    go (inr y) = absurd (no_other_text bytes d es t commute y.2.names)
  complete d es (Err stops.ReadFault) x read wrote calm quiet t commute live = absurd (calm (read refl))
  complete d es (Err stops.WriteFault) x read wrote calm quiet t commute live = absurd (quiet (wrote refl))
  complete d es (Err (stops.Full sum)) x read wrote calm quiet t commute live =
      completes bytes [] left (Some x.stopped.2.0) a b m n d es (Err (stops.Full sum)) (as_replay bytes x.rest x.stopped.2.0 left (stops.Full sum) x.told x.stopped.2.1) read wrote calm quiet t live
  complete d es (Err stops.OutOfMemory) x read wrote calm quiet t commute live = refl

  pub other : (result : Result X ReplayStop) → Succeeds result → Fails result → Read result → Wrote result → Stayed a b → Stayed m n → NamesOther bytes → StopsBy (stops.Bad 2 reasons.Word) result
  other (Ok done) f x read wrote calm quiet names = no_other_text bytes f.totals.setup f.totals.events f.totals.text f.totals.commute names
  other (Err (stops.Bad number reason)) f x read wrote calm quiet names = go x.stopped.1 where
    go : ((NamesOther bytes → ⊥) × AsReplay bytes x.rest (stops.Bad number reason)) ⊎ ((number ≡ 2) × (reason ≡ reasons.Word) × StopsAtRule bytes x.rest)
        → StopsBy {X = X} (stops.Bad 2 reasons.Word) (Err (stops.Bad number reason))
    go (inl y) = absurd (y.0 names)
    go (inr y) = inl (other_is number reason y.0 y.1)
  other (Err stops.ReadFault) f x read wrote calm quiet names = absurd (calm (read refl))
  other (Err stops.WriteFault) f x read wrote calm quiet names = absurd (quiet (wrote refl))
  other (Err (stops.Full sum)) f x read wrote calm quiet names = absurd (x.stopped.1 names)
  other (Err stops.OutOfMemory) f x read wrote calm quiet names = inr refl

  pub bad : (number : ℕ) (reason : Reason) (is : List LineItem) (result : Result X ReplayStop) → Succeeds result → Fails result → Read result → Wrote result → Stayed a b → Stayed m n
      → FirstBad bytes number reason is → WithinOn is → (NamesOther bytes → ⊥) → StopsBy (stops.Bad number reason) result
  bad number reason is (Ok done) f x read wrote calm quiet first within none = no_text_is_bad bytes number reason is f.totals.setup f.totals.events first f.totals.text
  bad number reason is (Err (stops.Bad k r)) f x read wrote calm quiet first within none = go x.stopped.1 where
    go : ((NamesOther bytes → ⊥) × AsReplay bytes x.rest (stops.Bad k r)) ⊎ ((k ≡ 2) × (r ≡ reasons.Word) × StopsAtRule bytes x.rest) → StopsBy {X = X} (stops.Bad number reason) (Err (stops.Bad k r))
    go (inl y) =
        stops_at_bad bytes [] left (Some y.1.0) a b m n number reason is (Err (stops.Bad k r)) tt (as_replay bytes x.rest y.1.0 left (stops.Bad k r) x.told y.1.1) read wrote calm quiet first within
    go (inr y) = absurd (none y.2.names)
  bad number reason is (Err stops.ReadFault) f x read wrote calm quiet first within none = absurd (calm (read refl))
  bad number reason is (Err stops.WriteFault) f x read wrote calm quiet first within none = absurd (quiet (wrote refl))
  bad number reason is (Err (stops.Full sum)) f x read wrote calm quiet first within none =
      stops_at_bad bytes [] left (Some x.stopped.2.0) a b m n number reason is (Err (stops.Full sum)) tt (as_replay bytes x.rest x.stopped.2.0 left (stops.Full sum) x.told x.stopped.2.1) read wrote calm quiet first within
  bad number reason is (Err stops.OutOfMemory) f x read wrote calm quiet first within none = inr refl

  pub full : (sum : ℕ) (is : List LineItem) (result : Result X ReplayStop) → Succeeds result → Fails result → Read result → Wrote result → Stayed a b → Stayed m n → FirstFull bytes sum is
      → (NamesOther bytes → ⊥) → StopsBy (stops.Full sum) result
  full sum is (Ok done) f x read wrote calm quiet first none =
      stops_at_full bytes [] left (Some (trace f.totals.setup f.totals.events)) a b m n sum is (Ok done) (as_finished bytes f.rest f.written left f.told f.totals) tt read wrote calm quiet first
  full sum is (Err (stops.Bad k r)) f x read wrote calm quiet first none = go x.stopped.1 where
    go : ((NamesOther bytes → ⊥) × AsReplay bytes x.rest (stops.Bad k r)) ⊎ ((k ≡ 2) × (r ≡ reasons.Word) × StopsAtRule bytes x.rest) → StopsBy {X = X} (stops.Full sum) (Err (stops.Bad k r))
    go (inl y) = stops_at_full bytes [] left (Some y.1.0) a b m n sum is (Err (stops.Bad k r)) tt (as_replay bytes x.rest y.1.0 left (stops.Bad k r) x.told y.1.1) read wrote calm quiet first
    go (inr y) = absurd (none y.2.names)
  full sum is (Err stops.ReadFault) f x read wrote calm quiet first none = absurd (calm (read refl))
  full sum is (Err stops.WriteFault) f x read wrote calm quiet first none = absurd (quiet (wrote refl))
  full sum is (Err (stops.Full total)) f x read wrote calm quiet first none =
      stops_at_full bytes [] left (Some x.stopped.2.0) a b m n sum is (Err (stops.Full total)) tt (as_replay bytes x.rest x.stopped.2.0 left (stops.Full total) x.told x.stopped.2.1) read wrote calm quiet first
  full sum is (Err stops.OutOfMemory) f x read wrote calm quiet first none = inr refl
