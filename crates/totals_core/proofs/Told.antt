-- What was told of a run, and how a stop ends.
use Rattle.std.proofs.Common.{◌≡◌, inl, inr, ℕ, List, [], ◌∷◌, ◌++◌, length, take, drop, Option, Some, Result, Ok, Err, OnOk, IfErr, refl, sym, ◌∙◌, ap, subst, append-nil, arith}
use Rattle.std.proofs.lemmas.List.{take-append-drop}
use Rattle.tcs_terms.specs.Setups.{Deployment}
use Rattle.schedule_text.specs.declared.reader.LineItem.TheVariants as items
use Rattle.schedule_text.specs.Schedules.{at_start}
use Rattle.schedule_text.specs.Whole.{at_end, schedule_items}
use Rattle.schedule_text.specs.Text.{schedule_lines}
use Rattle.schedule_text.proofs.BytesRead.{none_taken, events_of_schedule, setups_of_schedule}
use Rattle.schedule_text.proofs.FirstBadLines.{text_taken}
use Rattle.protocol.specs.Limit.{Progress as Run}
use Rattle.protocol.specs.World.{World}
use Rattle.protocol_laws.specs.Promises.{world_of}
use Rattle.replay_core.specs.declared.reading.Reading.{Reading}
use Rattle.replay_core.specs.declared.stops.ReplayStop.{ReplayStop}
use Rattle.replay_core.specs.declared.stops.ReplayStop.TheVariants as stops
use Rattle.replay_core.specs.Replays.{Kept, KeptOn, Worked, shown}
use Rattle.replay_core.specs.Trace.{run_of}
use Rattle.replay_core.proofs.Heading.{ends_begun, ends_unbegun}
use Rattle.replay_core.proofs.Working.{kept_is, within_nothing}
use Rattle.totals_core.specs.Progressing.{BegunCommuting, HasRun, StopsNow, Tells, TellsFront, TellsInPart}
use Rattle.totals_core.specs.Telling.{IsTold}
use Rattle.totals_core.specs.Totalling.{Ends, Finishes, ReadOn, Stops, StopsTelling, Totals}
use Rattle.totals_core.proofs.Begun.{commute_read}
use Rattle.totals_core.proofs.Stopping.{read_on_in_hand, some_is}
use Rattle.totals_core.proofs.Theorems.{equal, exchanges, within}

-- nothing was written
pub ends_unwritten : (bytes before : List ℕ) (left held : Option (List ℕ)) (stop : ReplayStop) → held ≡ Some before → StopsNow bytes left stop → Ends bytes before left held stop
ends_unwritten bytes before left held stop holds x =
    record { rest = x.0; told = x.1; written = []; holds = holds ∙ ap (λ (b : List ℕ). Some b) (sym (append-nil before)); stopped = x.2 }

-- memory ran out before the first line was read
pub stops_unbegun : (bytes : List ℕ) (left : Option (List ℕ)) → left ≡ Some bytes → StopsNow bytes left stops.OutOfMemory
stops_unbegun bytes left told =
    let e = ends_unbegun bytes [] left (Some []) told refl in
    let on : ReadOn bytes bytes = record {
      items = [];
      progress = at_start;
      behind = bytes;
      worked = record { lines = []; taken = none_taken bytes; ahead = []; read = refl; few = omega arith };
      commute = λ many. absurd (omega (arith, many));
    } in
    (e.rest, e.told, inl (refl, subst (ReadOn bytes) (some_is bytes e.rest (sym told ∙ e.told)) on, (e.written, e.stopped)))

-- memory ran out while the world was made
pub stops_begun : (bytes : List ℕ) (r : Reading) (first left : Option (List ℕ)) (d : Deployment) → BegunCommuting r first left d → first ≡ Some bytes → StopsNow bytes left stops.OutOfMemory
stops_begun bytes r first left d b told =
    let e = ends_begun bytes [] r first left (Some []) d b.begun told refl in
    let read = b.begun.read bytes told in
    let commute = commute_read r first left d b in
    let on = read_on_in_hand bytes r left left (b.begun.items ++ items.Begun d ∷ []) b.begun.items (items.Begun d) read.0 b.many commute read.1 in
    (e.rest, e.told, inl (refl, subst (ReadOn bytes) (some_is read.1.rest e.rest (sym read.1.told ∙ e.told)) on, (e.written, e.stopped)))

-- ---- all was read

module _ (bytes : List ℕ) (left : Option (List ℕ)) (setup : Deployment) (p : Run) (run : HasRun bytes left setup p) where
  abbrev w : World
  w = world_of (run_of setup run.events)

  same : world_of p ≡ w
  same = ap world_of run.so_far

  totals_of : (text : List ℕ) → IsTold setup.shards (world_of p) text → Totals bytes [] text
  totals_of text told =
      let now : IsTold setup.shards w text = subst (λ (x : World). IsTold setup.shards x text) same told in
      record {
        setup = setup;
        events = run.events;
        text = run.text;
        commute = run.commute;
        kept = run.kept;
        at_end = refl;
        told = now;
        within = within setup run.events text run.kept now;
        equal = equal setup run.events text run.text.schedule run.kept now;
        exchange = exchanges setup run.events run.kept run.commute;
      }

  pub finishes : (before : List ℕ) (held : Option (List ℕ)) → Tells setup.shards (world_of p) before held → Finishes bytes before left held
  finishes before held t = record { rest = []; told = run.at_end; written = t.text; holds = t.holds; totals = totals_of t.text t.told }

  -- a part of what is told was written
  ends_front : (before : List ℕ) (held : Option (List ℕ)) (stop : ReplayStop) → (f : TellsFront setup.shards (world_of p) before held)
      → ((written : List ℕ) → StopsTelling bytes [] written → Stops bytes [] written stop) → Ends bytes before left held stop
  ends_front before held stop f as_stop = record {
    rest = [];
    told = run.at_end;
    written = take f.front.taken f.text;
    holds = f.front.held;
    stopped = as_stop (take f.front.taken f.text)
        (record { text = f.text; totals = totals_of f.text f.told; rest = drop f.front.taken f.text; part = sym (take-append-drop f.front.taken f.text) });
  }

  -- memory ran out before anything was
  starved : StopsNow bytes left stops.OutOfMemory
  starved =
      let d = setup in
      let es = run.events in
      let is = schedule_items d es in
      let taken = text_taken bytes d es run.text in
      let kept : KeptOn is = kept_is is d (setups_of_schedule d es) (subst (Kept d) (sym (events_of_schedule d es)) run.kept) in
      let worked : Worked bytes [] is (at_end d (length es)) [] = record { lines = schedule_lines d es; taken = taken; ahead = []; read = refl; few = omega arith } in
      let on : ReadOn bytes [] = record { items = is; progress = at_end d (length es); behind = []; worked = worked; commute = λ many. run.commute } in
      ([], run.at_end, inl (refl, on, (shown is, within_nothing bytes [] is (at_end d (length es)) [] worked kept)))

  pub ends_telling : (before : List ℕ) (held : Option (List ℕ)) (stop : ReplayStop) → TellsInPart setup.shards (world_of p) before held stop → Ends bytes before left held stop
  ends_telling before held (stops.Bad number reason) x = absurd x
  ends_telling before held stops.ReadFault x = absurd x
  ends_telling before held stops.WriteFault x = ends_front before held stops.WriteFault x (λ written s. s)
  ends_telling before held (stops.Full sum) x = absurd x
  ends_telling before held stops.OutOfMemory (inl holds) = ends_unwritten bytes before left held stops.OutOfMemory holds starved
  ends_telling before held stops.OutOfMemory (inr front) = ends_front before held stops.OutOfMemory front (λ written s. inr s)

-- ---- of the answer

pub on_ok : {X : Type 0} (P Q : Type 0) (result : Result X ReplayStop) → (P → Q) → OnOk result P → OnOk result Q
on_ok P Q (Ok done) f x = f x
on_ok P Q (Err stop) f x = tt

pub if_err : {X : Type 0} (P Q : ReplayStop → Type 0) (result : Result X ReplayStop) → ((stop : ReplayStop) → P stop → Q stop) → IfErr result P → IfErr result Q
if_err P Q (Ok done) f x = tt
if_err P Q (Err stop) f x = f stop x
