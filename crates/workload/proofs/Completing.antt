-- Which answer comes, where no fault was counted.
use Rattle.std.proofs.Common.{◌≡◌, ℕ, zero, suc, ◌+◌, ◌-◌, ◌<◌, ◌≤◌, true, nat_lt, Option, Some, List, [], ◌++◌, take, drop, Result, Ok, Err, ◌⊎◌, inl, inr, refl, sym, subst, ap, ◌∙◌, arith, append-nil}
use Rattle.std.specs.Prelude.{OnOk, IfErr, IsErrOf}
use Rattle.std.proofs.lemmas.List.{take-append-drop}
use Rattle.cert_serial.specs.Serial.{serial}
use Rattle.tcs_io.specs.Bytes.{HoldsFront}
use Rattle.tcs_io.specs.Faults.{Rose}
use Rattle.tcs_io.specs.declared.writing.SinkStop.{SinkStop}
use Rattle.tcs_io.specs.declared.writing.SinkStop.TheVariants as sinks
use Rattle.tcs_terms.specs.declared.inputs.Event.{Event}
use Rattle.protocol.specs.Limit.{Progress, Step, frame_bytes, frame_limit, limited_step}
use Rattle.protocol.specs.Limit.Progress.{Live, Ended}
use Rattle.protocol.specs.Limit.Answer.{SoupFull}
use Rattle.protocol.specs.World.{world_step}
use Rattle.protocol_laws.specs.Promises.{world_of}
use Rattle.protocol_laws.proofs.Guards.{by_guard}
use Rattle.generated_runs.specs.Runs.{generated, next_event, next_step, serial_step, is_live, KeepsWithin, IsFullAt}
use Rattle.workload.specs.declared.stops.GenStop.{GenStop}
use Rattle.workload.specs.declared.stops.GenStop.TheVariants as stops
use Rattle.workload.specs.Counts.{soak_text}
use Rattle.workload.specs.Outcomes.{Stayed, WritesFully, StopsBy, Tells, TellsFront, SoakStopped}
use Rattle.workload.specs.Standing.{RunStops, StopsFrom, WorldStandsAt}
use Rattle.workload.specs.Stops.{stop_of_sink}
use Rattle.world.specs.WorldState.{WorldState, events_of}
use Rattle.workload.proofs.Steps.{events_are}
use Rattle.workload.proofs.Stopping.{kept_at}

-- ---- a run that passed the limit

full_ends : (p : Progress) (event : Event) (sum : ℕ) → (serial_step p event).answer ≡ SoupFull sum → is_live (serial_step p event).after ≡ true → ⊥
unfolding serial_step limited_step
full_ends (Live w count bytes) event sum =
    by_guard {A = Step} (λ s. s.answer ≡ SoupFull sum → is_live s.after ≡ true → ⊥) (nat_lt frame_limit (bytes + frame_bytes (world_step serial 1 w event).sent)) (λ full e live. cc live) (λ goes e live. cc e)
full_ends (Ended w count bytes) event sum = λ e live. cc live

live_before : (p : Progress) (event : Event) → is_live (serial_step p event).after ≡ true → is_live p ≡ true
unfolding serial_step limited_step
live_before (Live w count bytes) event live = refl
live_before (Ended w count bytes) event live = absurd (cc live)

one_before : (seed count place : ℕ) → KeepsWithin seed count (suc place) → KeepsWithin seed count place
unfolding generated
one_before seed count place within = live_before (generated seed count place).progress (next_event count (suc place) (generated seed count place)) within

within_before : (seed count place more : ℕ) → KeepsWithin seed count (more + place) → KeepsWithin seed count place
within_before seed count place zero within = let none : 0 + place ≡ place = omega arith in subst (KeepsWithin seed count) none within
within_before seed count place (suc more) within =
    let last : suc more + place ≡ suc (more + place) = omega arith in
    within_before seed count place more (one_before seed count (more + place) (subst (KeepsWithin seed count) last within))

within_at : (seed count place last : ℕ) → place ≤ last → KeepsWithin seed count last → KeepsWithin seed count place
within_at seed count place last few within =
    let is : last ≡ (last - place) + place = omega (arith, few) in
    within_before seed count place (last - place) (subst (KeepsWithin seed count) is within)

not_behind : (seed count place sum : ℕ) → IsFullAt seed count place sum → KeepsWithin seed count (suc place) → ⊥
unfolding generated
not_behind seed count place sum f within = full_ends (generated seed count place).progress (next_event count (suc place) (generated seed count place)) sum f.full within

not_within : (seed count place sum : ℕ) → IsFullAt seed count place sum → KeepsWithin seed count count → ⊥
not_within seed count place sum f within = not_behind seed count place sum f (within_at seed count (suc place) count (let less : place < count = f.within_count in omega (arith, less)) within)

-- it passes the limit once
same_place : (seed count p q s t : ℕ) → IsFullAt seed count p s → IsFullAt seed count q t → p < q → ⊥
same_place seed count p q s t f g less = not_behind seed count p s f (within_at seed count (suc p) q (omega (arith, less)) g.within)

same_sum : (seed count p q s t : ℕ) → IsFullAt seed count p s → IsFullAt seed count q t → s ≡ t
same_sum seed count p q s t f g = go (compare p q) where
  compare : (p q : ℕ) → (p < q) ⊎ ((q < p) ⊎ (p ≡ q))
  compare zero zero = inr (inr refl)
  compare zero (suc q) = inl (omega arith)
  compare (suc p) zero = inr (inl (omega arith))
  compare (suc p) (suc q) = more (compare p q) where
    more : (p < q) ⊎ ((q < p) ⊎ (p ≡ q)) → (suc p < suc q) ⊎ ((suc q < suc p) ⊎ (suc p ≡ suc q))
    more (inl l) = inl (omega (arith, l))
    more (inr (inl l)) = inr (inl (omega (arith, l)))
    more (inr (inr e)) = inr (inr (ap suc e))

  sum_is : SoupFull s ≡ SoupFull t → s ≡ t
  sum_is e = cc e

  go : (p < q) ⊎ ((q < p) ⊎ (p ≡ q)) → s ≡ t
  go (inl l) = absurd (same_place seed count p q s t f g l)
  go (inr (inl l)) = absurd (same_place seed count q p t s g f l)
  go (inr (inr e)) = sum_is (sym f.full ∙ ap (λ (n : ℕ). (next_step count (suc n) (generated seed count n)).answer) e ∙ g.full)

-- ---- the answer

pub completes : {X : Type 0} (result : Result X GenStop) (seed count before after : ℕ) → IfErr result (StopsFrom seed count) → (IsErrOf result stops.WriteFault → Rose before after) → Stayed before after → KeepsWithin seed count count
    → WritesFully result
completes (Ok x) seed count before after from fault stayed within = tt
completes (Err stops.WriteFault) seed count before after from fault stayed within = absurd (stayed (fault refl))
completes (Err (stops.Full sum)) seed count before after from fault stayed within = absurd (not_within seed count from.0 sum from.1 within)
completes (Err stops.OutOfMemory) seed count before after from fault stayed within = refl

pub stops_full : {X : Type 0} (result : Result X GenStop) (seed count before after place sum : ℕ) → OnOk result (KeepsWithin seed count count) → IfErr result (StopsFrom seed count) → (IsErrOf result stops.WriteFault → Rose before after)
    → Stayed before after → IsFullAt seed count place sum → StopsBy (stops.Full sum) result
stops_full (Ok x) seed count before after place sum within from fault stayed f = absurd (not_within seed count place sum f within)
stops_full (Err stops.WriteFault) seed count before after place sum within from fault stayed f = absurd (stayed (fault refl))
stops_full (Err (stops.Full other)) seed count before after place sum within from fault stayed f = inl (ap stops.Full (same_sum seed count from.0 place other sum from.1 f))
stops_full (Err stops.OutOfMemory) seed count before after place sum within from fault stayed f = inr refl

-- ---- counts

pub nothing_told : (seed count : ℕ) (before : List ℕ) (held : Option (List ℕ)) → held ≡ Some before → TellsFront seed count before held
nothing_told seed count before held h = record { written = []; rest = []; begins = inl refl; holds = h ∙ ap (λ (t : List ℕ). Some t) (sym (append-nil before)) }

pub run_stopped : (seed count : ℕ) (before : List ℕ) (held : Option (List ℕ)) (stop : GenStop) → held ≡ Some before → RunStops seed count stop → SoakStopped seed count before held stop
run_stopped seed count before held stops.WriteFault h t = absurd t
run_stopped seed count before held (stops.Full sum) h t = h
run_stopped seed count before held stops.OutOfMemory h t = nothing_told seed count before held h

pub from_run : (seed count : ℕ) (stop : GenStop) → RunStops seed count stop → StopsFrom seed count stop
from_run seed count stops.WriteFault t = absurd t
from_run seed count (stops.Full sum) t = t
from_run seed count stops.OutOfMemory t = tt

pub counts_cut : (seed count : ℕ) (before piece : List ℕ) (held : Option (List ℕ)) (stop : SinkStop) → KeepsWithin seed count count → piece ≡ soak_text count (world_of (generated seed count count).progress) → HoldsFront before piece held
    → SoakStopped seed count before held (stop_of_sink stop)
counts_cut seed count before piece held stop within is h = by_stop stop where
  cut : TellsFront seed count before held
  cut = record { written = take h.taken piece; rest = drop h.taken piece; begins = inr (within, sym is ∙ sym (take-append-drop h.taken piece)); holds = h.held }

  by_stop : (stop : SinkStop) → SoakStopped seed count before held (stop_of_sink stop)
  by_stop sinks.Failed = cut
  by_stop sinks.OutOfMemory = cut

pub counts_are : (seed count : ℕ) (world : WorldState) (piece : List ℕ) → WorldStandsAt seed count count world → piece ≡ soak_text (events_of world.progress) (world_of world.progress)
    → piece ≡ soak_text count (world_of (generated seed count count).progress)
counts_are seed count world piece s is =
    is ∙ ap (λ (p : Progress). soak_text (events_of p) (world_of p)) s.run_is
    ∙ ap (λ (n : ℕ). soak_text n (world_of (generated seed count count).progress)) (events_are seed count count s.within)

pub counts_told : (seed count : ℕ) (before piece : List ℕ) (held : Option (List ℕ)) → count ≤ 50000 → KeepsWithin seed count count → piece ≡ soak_text count (world_of (generated seed count count).progress) → held ≡ Some (before ++ piece)
    → Tells seed count before held
counts_told seed count before piece held most within is h =
    record { kept = kept_at seed count count most within; holds = h ∙ ap (λ (t : List ℕ). Some (before ++ t)) is }
