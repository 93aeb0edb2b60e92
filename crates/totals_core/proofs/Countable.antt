-- The world of a run that keeps its promises can be told: its nodes are numbered, and rows and notes are few.
use Rattle.std.proofs.Common.{◌≡◌, zero, suc, ◌<◌, ◌≤◌, true, List, [], ◌∷◌, ◌++◌, length, map, take, get_or, refl, sym, ap, subst, arith, ℕ}
use Rattle.std.specs.Prelude.{◌&&◌}
use Rattle.std.specs.List.{list_all, range_with_len}
use Rattle.std.proofs.lemmas.Bool.{and_parts}
use Rattle.tcs_terms.specs.declared.ids.TxId.{TxId}
use Rattle.tcs_terms.specs.declared.inputs.Event.{Event}
use Rattle.tcs_terms.specs.declared.inputs.Note.{Note}
use Rattle.tcs_terms.specs.declared.inputs.Note.TheVariants.{Begin, Take, ReadValue, Decide}
use Rattle.tcs_terms.specs.declared.votes.Decision.{Decision}
use Rattle.tcs_terms.specs.declared.votes.Decision.TheVariants.{Commit, Abort}
use Rattle.tcs_terms.specs.Setups.{Deployment}
use Rattle.tcs_terms.specs.Runs.{AreEventsOf}
use Rattle.tcs_laws.specs.Certification.{Tests}
use Rattle.schedule_text.specs.declared.limits.TheConstants.{EVENT_LIMIT}
use Rattle.schedule_text.specs.declared.places.Place.{Place}
use Rattle.schedule_text.specs.declared.places.Place.TheVariants as places
use Rattle.schedule_text.specs.declared.reader.LineItem.{LineItem}
use Rattle.schedule_text.specs.Bytes.{events_on}
use Rattle.schedule_text.proofs.BytesRead.{known}
use Rattle.schedule_text.proofs.ScheduleReadings.{EventsStand}
use Rattle.protocol.specs.CorrectHistory.{agrees, agrees_after, agrees_with}
use Rattle.protocol.specs.History.{has_begun}
use Rattle.protocol.specs.Invariant.Time.{StandsIn, time_after}
use Rattle.protocol.specs.Limit.{Progress as Run}
use Rattle.protocol.specs.Limit.Progress.{Live, Ended}
use Rattle.protocol.specs.Records.{NodeRecord}
use Rattle.protocol.specs.World.{World}
use Rattle.protocol_laws.specs.Growth.{CountsHold}
use Rattle.protocol_laws.specs.Promises.{KeepsItsPromises, world_of}
use Rattle.protocol_laws.proofs.RunsOn.{run-counted}
use Rattle.protocol_laws.proofs.WithPast.{with_past-each}
use Rattle.wire_frame.proofs.Counts.{few_rows}
use Rattle.counters.specs.Histories.{decided_after, may_follow}
use Rattle.replay_core.specs.declared.reading.Reading.{Reading}
use Rattle.replay_core.specs.Standing.{StandsBegun}
use Rattle.replay_core.specs.Trace.{tests_of, run_of, is_live}
use Rattle.replay_core.proofs.Promised.{are_events, kept}
use Rattle.totals_core.specs.Holdings.{IsCountable}
use Rattle.totals_core.specs.Progressing.{AreFew}

by_run : (d : Deployment) (es : List Event) (p : Run) → AreEventsOf d es → length es ≤ EVENT_LIMIT → KeepsItsPromises (tests_of d.rule) d es p → CountsHold es p → is_live p ≡ true → IsCountable (world_of p)
by_run d es (Ended w count bytes) a few k counts live = absurd cc
by_run d es (Live w count bytes) a few k counts live =
    let t = time_after (tests_of d.rule) d es in
    let holds = k.invariant.holds in
    let notes = counts.notes in
    let counted = counts.counted in
    record {
      count = length d.nodes;
      names = subst (λ (x : World). map (λ (n : NodeRecord). n.name) x.nodes ≡ range_with_len 1 (length d.nodes)) k.invariant.now holds.configurations.names;
      few = a.deployment.few_nodes;
      rows = λ node there. few_rows node.rows (holds.promises.rows node (subst (λ (x : World). StandsIn node x.nodes) (sym k.invariant.now) there));
      agreement = k.correct.agreement;
      notes = omega (arith, few, notes, counted);
    }

-- the world of a run whose input has ended
pub countable : (tests : Tests) (r : Reading) (setup : Deployment) (p : Run) (is : List LineItem) → StandsBegun tests places.Ended r setup p is → IsCountable (world_of p)
countable tests r setup p is s =
    let d = r.reader.head.setup in
    let es = events_on is in
    let a = are_events r is s.standing s.begun in
    let k = known s.standing.lines is r.reader s.standing.read in
    let stands = subst (λ (place : Place). EventsStand place d r.reader.count es) s.place k.stands.events in
    subst (λ (q : Run). IsCountable (world_of q)) (sym s.runs.so_far)
    (by_run d es (run_of d es) a stands.2 (kept d es a s.runs.within).promises (run-counted (tests_of d.rule) d es) s.runs.within)

pub some_shards : (tests : Tests) (r : Reading) (setup : Deployment) (p : Run) (is : List LineItem) → StandsBegun tests places.Ended r setup p is → 1 ≤ setup.shards
some_shards tests r setup p is s = subst (λ (f : Deployment). 1 ≤ f.shards) (sym s.runs.of) (are_events r is s.standing s.begun).deployment.some_shards

-- ---- the notes of a history

begun_by : (past : List Note) (txn : TxId) (decision : Decision) → has_begun past txn && list_all (agrees_with txn decision) past ≡ true → decided_after past txn decision ≡ true
begun_by past txn Commit agrees = (and_parts (has_begun past txn) (list_all (agrees_with txn Commit) past) agrees).0
begun_by past txn (Abort shard cause) agrees = refl

follows : (past : List Note) (n : Note) → agrees_after past n ≡ true → may_follow past n ≡ true
follows past (Begin txn payload) agrees = refl
follows past (Take txn) agrees = refl
follows past (ReadValue name version value) agrees = refl
follows past (Decide txn decision) agrees = begun_by past txn decision agrees

split_at : (h : List Note) (i : ℕ) (n : Note) → i < length h → n ≡ get_or h i n → (back : List Note) × (h ≡ take i h ++ n ∷ back)
split_at [] i n low is = absurd (omega (arith, low))
split_at (m ∷ ms) zero n low is = (ms, ap (λ (x : Note). x ∷ ms) (sym is))
split_at (m ∷ ms) (suc i) n low is = let r = split_at ms i n (omega (arith, low)) is in (r.0, ap (λ (xs : List Note). m ∷ xs) r.1)

-- each of them may follow those before it
pub note_follows : (h : List Note) (i : ℕ) (n : Note) → agrees h ≡ true → i < length h → n ≡ get_or h i n → may_follow (take i h) n ≡ true
note_follows h i n agreement low is =
    let s = split_at h i n low is in
    follows (take i h) n (with_past-each (λ e. agrees_after e.0 e.1) h (take i h) n s.0 agreement s.1)

pub few_notes : (w : World) → IsCountable w → AreFew w.history
few_notes w c = record { agreement = c.agreement; few = c.notes }
