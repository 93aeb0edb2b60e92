-- Which answer comes: a text whose run keeps within the limit has no stop but want of memory; a first bad line, or a
-- first event that passes the limit, has that stop alone.
use Rattle.std.proofs.Common.{◌≡◌, ◌⊎◌, inl, inr, ℕ, true, false, List, [], ◌∷◌, ◌++◌, length, fold, Option, Some, Result, Ok, Err, OnOk, IfErr, refl, sym, ◌∙◌, ap, subst, append_assoc, arith}
use Rattle.std.specs.Prelude.{IsErrOf}
use Rattle.tcs_io.specs.Faults.{Rose}
use Rattle.tcs_terms.specs.declared.inputs.Event.{Event}
use Rattle.text_words.specs.declared.words.Reason.{Reason}
use Rattle.tcs_terms.specs.Setups.{Deployment}
use Rattle.tcs_laws.specs.Certification.{Tests}
use Rattle.schedule_text.specs.declared.reader.LineItem.{LineItem}
use Rattle.schedule_text.specs.declared.reader.LineItem.TheVariants as items
use Rattle.schedule_text.specs.Bytes.{IsText, HasText, HasFirstBad, Taken, FirstBad, events_on, setups_on}
use Rattle.schedule_text.specs.Schedules.{Progress}
use Rattle.schedule_text.specs.Whole.{schedule_items}
use Rattle.schedule_text.proofs.BytesRead.{one_taken, events_append, setups_append, events_of_schedule, setups_of_schedule}
use Rattle.schedule_text.proofs.EveryText.{text_or_bad}
use Rattle.schedule_text.proofs.FirstBadLines.{goes_no_further, stuck_at_bad, text_goes_on, no_text_is_bad, one_first_bad}
use Rattle.protocol.specs.Limit.{Progress as Run, limited_step}
use Rattle.protocol.specs.Limit.Progress.{Live, Ended}
use Rattle.protocol.specs.Limit.Answer.{Happens, SoupFull}
use Rattle.protocol.specs.World.{World, world_step}
use Rattle.replay_core.specs.declared.stops.ReplayStop.{ReplayStop}
use Rattle.replay_core.specs.declared.stops.ReplayStop.TheVariants as stops
use Rattle.replay_core.specs.Trace.{tests_of, run_of, answer_to, is_live}
use Rattle.replay_core.specs.Replays.{Ends, Finishes, FirstFull, KeptBy, KeptOn, WithinBy, WithinOn, Stayed, ReplaysFully, StopsBy}
use Rattle.replay_core.proofs.TraceLemmas.{Goes, Ends as RunEnds, live_step, walk, first_of, run_is, run_on}

-- ---- a run that has ended stays so

ended_stays : (tests : Tests) (version : ℕ) (w : World) (count bytes : ℕ) (es : List Event) → walk tests version (Ended w count bytes) es ≡ Ended w count bytes
unfolding limited_step
ended_stays tests version w count bytes [] = refl
ended_stays tests version w count bytes (e ∷ es) = ended_stays tests version w count bytes es

abbrev IsEnded : Run → Type 0
IsEnded p = is_live p ≡ false

stays : (tests : Tests) (version : ℕ) (p : Run) (es : List Event) → IsEnded p → IsEnded (walk tests version p es)
stays tests version (Live w count bytes) es e = absurd cc
stays tests version (Ended w count bytes) es e = ap is_live (ended_stays tests version w count bytes es)

walk_append : (tests : Tests) (version : ℕ) (p : Run) (es fs : List Event) → walk tests version p (es ++ fs) ≡ walk tests version (walk tests version p es) fs
walk_append tests version p [] fs = refl
walk_append tests version p (e ∷ es) fs = walk_append tests version (limited_step tests version p e).after es fs

run_append : (d : Deployment) (es fs : List Event) → run_of d (es ++ fs) ≡ walk (tests_of d.rule) d.version (run_of d es) fs
run_append d es fs =
    run_is d (es ++ fs) ∙ walk_append (tests_of d.rule) d.version (first_of d) es fs
    ∙ ap (λ (p : Run). walk (tests_of d.rule) d.version p fs) (sym (run_is d es))

-- an event that is answered so ends the run
full_ends : (tests : Tests) (version : ℕ) (p : Run) (e : Event) (sum : ℕ) → (limited_step tests version p e).answer ≡ SoupFull sum → IsEnded (limited_step tests version p e).after
unfolding limited_step
full_ends tests version (Ended w count bytes) e sum h = refl
full_ends tests version (Live w count bytes) e sum h = go (live_step tests version w count bytes e) where
  go : Goes w count (world_step tests version w e) (limited_step tests version (Live w count bytes) e) ⊎ RunEnds (limited_step tests version (Live w count bytes) e)
      → IsEnded (limited_step tests version (Live w count bytes) e).after
  go (inl g) = absurd (differ (sym g.answer ∙ h)) where
    differ : {r : _} {ns : _} {ms : _} → Happens r ns ms ≡ SoupFull sum → ⊥
    differ x = absurd cc
  go (inr x) = ap is_live x.after

-- no run of events that begin so keeps within the limit
passed : (d : Deployment) (es fs : List Event) (e : Event) (sum : ℕ) → answer_to d es e ≡ SoupFull sum → is_live (run_of d ((es ++ e ∷ []) ++ fs)) ≡ true → ⊥
passed d es fs e sum h live =
    let ended = full_ends (tests_of d.rule) d.version (run_of d es) e sum h in
    let first : IsEnded (run_of d (es ++ e ∷ [])) = ap is_live (run_on d es e) ∙ ended in
    let last = ap is_live (run_append d (es ++ e ∷ []) fs) ∙ stays (tests_of d.rule) d.version (run_of d (es ++ e ∷ [])) fs first in
    differ (sym live ∙ last) where
      differ : true ≡ false → ⊥
      differ x = absurd cc

-- ---- the first event that passes the limit, and what else the bytes may be

-- the lines up to that event, its own among them
full_taken : (bytes : List ℕ) (sum : ℕ) (is : List LineItem) → (f : FirstFull bytes sum is)
    → Taken bytes (f.lines ++ f.line.line ∷ []) (is ++ items.Event f.event ∷ []) f.line.next f.line.rest
full_taken bytes sum is f =
    one_taken bytes f.lines is f.progress f.line.next f.behind f.line.line f.line.rest (items.Event f.event) f.taken f.line.stands f.line.read

-- lines that go on from there
record Passes (is : List LineItem) (e : Event) (js : List LineItem) : Type 0 where
  more : List LineItem
  same : js ≡ (is ++ items.Event e ∷ []) ++ more

first_same : (x y : Deployment) (xs ys : List Deployment) → x ∷ xs ≡ y ∷ ys → x ≡ y
first_same x y xs ys e = cc

-- their run does not keep within the limit
not_within : (bytes : List ℕ) (sum : ℕ) (is js : List LineItem) → (f : FirstFull bytes sum is) → Passes is f.event js → WithinOn js → ⊥
not_within bytes sum is js f p within =
    let events : events_on js ≡ (events_on is ++ f.event ∷ []) ++ events_on p.more =
    ap events_on p.same ∙ events_append (is ++ items.Event f.event ∷ []) p.more
    ∙ ap (λ (es : List Event). es ++ events_on p.more) (events_append is (items.Event f.event ∷ [])) in
    let setups : setups_on js ≡ f.setup ∷ setups_on p.more =
    ap setups_on p.same ∙ setups_append (is ++ items.Event f.event ∷ []) p.more
    ∙ ap (λ (xs : List Deployment). xs ++ setups_on p.more) (setups_append is (items.Event f.event ∷ []) ∙ ap (λ (xs : List Deployment). xs ++ []) f.begun) in
    let live : is_live (run_of f.setup (events_on js)) ≡ true = subst (λ (ds : List Deployment). WithinBy ds (events_on js)) setups within in
    passed f.setup (events_on is) (events_on p.more) f.event sum f.full (ap (λ (es : List Event). is_live (run_of f.setup es)) (sym events) ∙ live)

-- the lines of a text go on from there
text_passes : (bytes : List ℕ) (sum : ℕ) (is : List LineItem) (d : Deployment) (es : List Event) → (f : FirstFull bytes sum is) → IsText bytes d es → Passes is f.event (schedule_items d es)
text_passes bytes sum is d es f t =
    let g = text_goes_on bytes d es (f.lines ++ f.line.line ∷ []) (is ++ items.Event f.event ∷ []) f.line.next f.line.rest t (full_taken bytes sum is f) in
    record { more = g.kinds; same = g.items }

-- and so do the lines before a first bad one
bad_passes : (bytes : List ℕ) (sum : ℕ) (is js : List LineItem) (number : ℕ) (reason : Reason) → (f : FirstFull bytes sum is) → FirstBad bytes number reason js → Passes is f.event js
bad_passes bytes sum is js number reason f b =
    let g = goes_no_further bytes b.lines (f.lines ++ f.line.line ∷ []) js (is ++ items.Event f.event ∷ []) b.progress f.line.next b.behind f.line.rest b.taken (full_taken bytes sum is f)
    (stuck_at_bad b.progress b.behind b.got b.line b.rest reason b.next b.refused) in
    record { more = g.kinds; same = g.items }

not_of_text : (bytes : List ℕ) (sum : ℕ) (is : List LineItem) (d : Deployment) (es : List Event) → FirstFull bytes sum is → IsText bytes d es → is_live (run_of d es) ≡ true → ⊥
not_of_text bytes sum is d es f t live =
    not_within bytes sum is (schedule_items d es) f (text_passes bytes sum is d es f t)
    (subst (λ (ds : List Deployment). WithinBy ds (events_on (schedule_items d es))) (sym (setups_of_schedule d es))
    (ap (λ (fs : List Event). is_live (run_of d fs)) (events_of_schedule d es) ∙ live))

not_before_bad : (bytes : List ℕ) (sum : ℕ) (is js : List LineItem) (number : ℕ) (reason : Reason) → FirstFull bytes sum is → FirstBad bytes number reason js → WithinOn js → ⊥
not_before_bad bytes sum is js number reason f b within = not_within bytes sum is js f (bad_passes bytes sum is js number reason f b) within

within_by : (ds : List Deployment) (es : List Event) → KeptBy ds es → WithinBy ds es
within_by [] es k = tt
within_by (d ∷ ds) es k = k.within

within : (is : List LineItem) → KeptOn is → WithinOn is
within is k = within_by (setups_on is) (events_on is) k

-- ---- there is one such event

-- of two lines in one list, either they are one, or one stands behind the other
data Order (is js : List LineItem) (e f : Event) : Type 0 where
  Same : is ≡ js → e ≡ f → Order is js e f
  Later : Passes is e js → Order is js e f
  Earlier : Passes js f is → Order is js e f

event_same : (e f : Event) → items.Event e ≡ items.Event f → e ≡ f
event_same e f h = cc

order : (is js : List LineItem) (e f : Event) (more rest : List LineItem) → (is ++ items.Event e ∷ []) ++ more ≡ (js ++ items.Event f ∷ []) ++ rest → Order is js e f
order [] [] e f more rest h = Same refl (event_same e f cc)
order [] (j ∷ js) e f more rest h = let head : items.Event e ≡ j = cc in Later (record { more = js; same = ap (λ (i : LineItem). i ∷ js) (sym head) })
order (i ∷ is) [] e f more rest h = let head : items.Event f ≡ i = cc in Earlier (record { more = is; same = ap (λ (j : LineItem). j ∷ is) (sym head) })
order (i ∷ is) (j ∷ js) e f more rest h = go (order is js e f more rest cc) where
  head : i ≡ j
  head = cc

  go : Order is js e f → Order (i ∷ is) (j ∷ js) e f
  go (Same all one) = Same (ap (λ (xs : List LineItem). i ∷ xs) all ∙ ap (λ (x : LineItem). x ∷ js) head) one
  go (Later p) = Later (record { more = p.more; same = ap (λ (x : LineItem). x ∷ js) (sym head) ∙ ap (λ (xs : List LineItem). i ∷ xs) p.same })
  go (Earlier p) = Earlier (record { more = p.more; same = ap (λ (x : LineItem). x ∷ is) head ∙ ap (λ (xs : List LineItem). j ∷ xs) p.same })

ordered : (bytes : List ℕ) (m n : ℕ) (is js : List LineItem) → (f : FirstFull bytes m is) → (g : FirstFull bytes n js) → Order is js f.event g.event
ordered bytes m n is js f g = go (text_or_bad bytes) where
  both : (all : List LineItem) → Passes is f.event all → Passes js g.event all → Order is js f.event g.event
  both all p q = order is js f.event g.event p.more q.more (sym p.same ∙ q.same)

  go : HasText bytes ⊎ HasFirstBad bytes → Order is js f.event g.event
  go (inl t) = both (schedule_items t.setup t.events) (text_passes bytes m is t.setup t.events f t.is) (text_passes bytes n js t.setup t.events g t.is)
  go (inr b) = both b.items (bad_passes bytes m is b.items b.number b.reason f b.is) (bad_passes bytes n js b.items b.number b.reason g b.is)

within_full : (bytes : List ℕ) (sum : ℕ) (is : List LineItem) → FirstFull bytes sum is → WithinOn is
within_full bytes sum is f = subst (λ (ds : List Deployment). WithinBy ds (events_on is)) (sym f.begun) f.within

one_sum : (m n : ℕ) → SoupFull m ≡ SoupFull n → m ≡ n
one_sum m n e = cc

pub one_first_full : (bytes : List ℕ) (m n : ℕ) (is js : List LineItem) → FirstFull bytes m is → FirstFull bytes n js → m ≡ n
one_first_full bytes m n is js f g = go (ordered bytes m n is js f g) where
  go : Order is js f.event g.event → m ≡ n
  go (Same all one) =
      let setup : f.setup ≡ g.setup = first_same f.setup g.setup [] [] (sym f.begun ∙ ap setups_on all ∙ g.begun) in
      one_sum m n (sym f.full ∙ ap (λ (d : Deployment). answer_to d (events_on is) f.event) setup ∙ ap (λ (xs : List LineItem). answer_to g.setup (events_on xs) f.event) all
      ∙ ap (answer_to g.setup (events_on js)) one ∙ g.full)
  go (Later p) = absurd (not_within bytes m is js f p (within_full bytes n js g))
  go (Earlier p) = absurd (not_within bytes n js is g p (within_full bytes m is f))

-- ---- the answers

-- the text of a schedule whose run keeps within the limit
pub completes : {X : Type 0} (bytes before : List ℕ) (left held : Option (List ℕ)) (a b m n : ℕ) (d : Deployment) (es : List Event) (result : Result X ReplayStop) → IfErr result (Ends bytes before left held)
    → (IsErrOf result stops.ReadFault → Rose a b) → (IsErrOf result stops.WriteFault → Rose m n) → Stayed a b → Stayed m n
    → IsText bytes d es → is_live (run_of d es) ≡ true → ReplaysFully result
completes bytes before left held a b m n d es (Ok done) x read wrote calm quiet t live = tt
completes bytes before left held a b m n d es (Err (stops.Bad number reason)) x read wrote calm quiet t live =
    absurd (no_text_is_bad bytes number reason x.stopped.items d es x.stopped.bad t)
completes bytes before left held a b m n d es (Err stops.ReadFault) x read wrote calm quiet t live = absurd (calm (read refl))
completes bytes before left held a b m n d es (Err stops.WriteFault) x read wrote calm quiet t live = absurd (quiet (wrote refl))
completes bytes before left held a b m n d es (Err (stops.Full sum)) x read wrote calm quiet t live = absurd (not_of_text bytes sum x.stopped.items d es x.stopped.full t live)
completes bytes before left held a b m n d es (Err stops.OutOfMemory) x read wrote calm quiet t live = refl

bad_is : (m n : ℕ) (x y : Reason) → m ≡ n → x ≡ y → stops.Bad m x ≡ stops.Bad n y
bad_is m n x y e f = ap (λ k. stops.Bad k x) e ∙ ap (stops.Bad n) f

-- a first bad line, before which the run keeps within the limit
pub stops_at_bad : {X : Type 0} (bytes before : List ℕ) (left held : Option (List ℕ)) (a b m n : ℕ) (number : ℕ) (reason : Reason) (is : List LineItem) (result : Result X ReplayStop)
    → OnOk result (Finishes bytes before left held) → IfErr result (Ends bytes before left held)
    → (IsErrOf result stops.ReadFault → Rose a b) → (IsErrOf result stops.WriteFault → Rose m n) → Stayed a b → Stayed m n
    → FirstBad bytes number reason is → WithinOn is → StopsBy (stops.Bad number reason) result
stops_at_bad bytes before left held a b m n number reason is (Ok done) f x read wrote calm quiet bad w =
    no_text_is_bad bytes number reason is f.replays.setup f.replays.events bad f.replays.text
stops_at_bad bytes before left held a b m n number reason is (Err (stops.Bad k r)) f x read wrote calm quiet bad w =
    let one = one_first_bad bytes k number r reason x.stopped.items is x.stopped.bad bad in
    inl (bad_is k number r reason one.0 one.1)
stops_at_bad bytes before left held a b m n number reason is (Err stops.ReadFault) f x read wrote calm quiet bad w = absurd (calm (read refl))
stops_at_bad bytes before left held a b m n number reason is (Err stops.WriteFault) f x read wrote calm quiet bad w = absurd (quiet (wrote refl))
stops_at_bad bytes before left held a b m n number reason is (Err (stops.Full sum)) f x read wrote calm quiet bad w =
    absurd (not_before_bad bytes sum x.stopped.items is number reason x.stopped.full bad w)
stops_at_bad bytes before left held a b m n number reason is (Err stops.OutOfMemory) f x read wrote calm quiet bad w = inr refl

-- a first event that passes the limit
pub stops_at_full : {X : Type 0} (bytes before : List ℕ) (left held : Option (List ℕ)) (a b m n : ℕ) (sum : ℕ) (is : List LineItem) (result : Result X ReplayStop)
    → OnOk result (Finishes bytes before left held) → IfErr result (Ends bytes before left held)
    → (IsErrOf result stops.ReadFault → Rose a b) → (IsErrOf result stops.WriteFault → Rose m n) → Stayed a b → Stayed m n
    → FirstFull bytes sum is → StopsBy (stops.Full sum) result
stops_at_full bytes before left held a b m n sum is (Ok done) f x read wrote calm quiet full =
    not_of_text bytes sum is f.replays.setup f.replays.events full f.replays.text f.replays.kept.within
stops_at_full bytes before left held a b m n sum is (Err (stops.Bad k r)) f x read wrote calm quiet full =
    absurd (not_before_bad bytes sum is x.stopped.items k r full x.stopped.bad (within x.stopped.items x.stopped.kept))
stops_at_full bytes before left held a b m n sum is (Err stops.ReadFault) f x read wrote calm quiet full = absurd (calm (read refl))
stops_at_full bytes before left held a b m n sum is (Err stops.WriteFault) f x read wrote calm quiet full = absurd (quiet (wrote refl))
stops_at_full bytes before left held a b m n sum is (Err (stops.Full other)) f x read wrote calm quiet full =
    inl (ap stops.Full (one_first_full bytes other sum x.stopped.items is x.stopped.full full))
stops_at_full bytes before left held a b m n sum is (Err stops.OutOfMemory) f x read wrote calm quiet full = inr refl
