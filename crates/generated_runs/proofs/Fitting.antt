-- While a generated run goes on, each of its events may stand, and what comes next may too.
use Rattle.std.proofs.Common.{◌≡◌, ℕ, zero, suc, ◌+◌, ◌≤◌, ◌<◌, ◌^◌, ◌==◌, nat_lt, Bool, true, false, List, [], ◌∷◌, ◌++◌, length, length-append, ◌⊎◌, inl, inr, refl, sym, subst, ap, ◌∙◌, arith, eqb-true}
use Rattle.std.specs.List.{AllByRecursion, list_any, range_with_len}
use Rattle.cert_serial.specs.Serial.{serial}
use Rattle.tcs_terms.proofs.BoolLaws.{right_of}
use Rattle.tcs_terms.specs.declared.inputs.Event.{Event}
use Rattle.tcs_terms.specs.declared.inputs.Note.{Note}
use Rattle.tcs_terms.specs.declared.inputs.Note.TheVariants as notes
use Rattle.tcs_terms.specs.Payloads.{same_name}
use Rattle.tcs_terms.specs.Runs.{AreEventsOf, MayStand}
use Rattle.protocol.specs.Invariant.Time.{StandsIn}
use Rattle.protocol.specs.Limit.{Progress, Step, frame_bytes, frame_limit, limited_run, limited_step}
use Rattle.protocol.specs.Limit.Progress.{Live, Ended}
use Rattle.protocol.specs.OneCopy.{tells_version}
use Rattle.protocol.specs.World.{World, Sent, first_world, world_step}
use Rattle.protocol.proofs.Lists.{StandsIn-append}
use Rattle.protocol_laws.specs.Growth.{CountsHold}
use Rattle.protocol_laws.specs.Limits.{LimitHolds}
use Rattle.protocol_laws.specs.Promises.{world_of}
use Rattle.protocol_laws.proofs.Guards.{by_guard}
use Rattle.protocol_laws.proofs.LimitedRuns.{limit_holds}
use Rattle.protocol_laws.proofs.RunsOn.{event-adds, run-counted}
use Rattle.generator.specs.declared.accounts.Reading.{Reading}
use Rattle.generator.specs.declared.doings.Doing.{Doing}
use Rattle.generator.specs.declared.doings.Doing.TheVariants as doings
use Rattle.generator.specs.declared.transfers.Transfer.{Transfer}
use Rattle.generator.specs.declared.transfers.Transfer.TheVariants.{Idle, Begun, Half, Whole}
use Rattle.generator.specs.Accounts.{account_name}
use Rattle.generator.specs.Courses.{CourseState, HasRoom, IsTransfer, with_reading, with_notes, numbers_behind}
use Rattle.generated_runs.specs.Setup.{setup}
use Rattle.generated_runs.specs.Sights.{event_of, waits_in}
use Rattle.generated_runs.specs.Runs.{State, next, next_event, serial_step, is_read, is_live, heard, with_answer, generated, events_until}
use Rattle.generated_runs.proofs.Choosing.{WasRead, Seen}
use Rattle.generated_runs.proofs.Doings.{setup_is, may_stand, hands_in}
use Rattle.generated_runs.proofs.Events.{run_is}
use Rattle.generated_runs.proofs.Honest.{always_honest}
use Rattle.generated_runs.proofs.Known.{BegunUpTo, Known, run_known}
use Rattle.generated_runs.proofs.Noting.{NotedAt, OneAt, event_notes}
use Rattle.generated_runs.proofs.Queued.{always_sent}
use Rattle.generated_runs.proofs.Wellness.{IsNumber, IsUpTo, IsWell, IsKept, IsChosenWell, chosen_well}

-- ---- versions that a transfer read

-- a note that tells a version of an object is a reading
record IsToldIn (h : List Note) (version : ℕ) : Type 0 where
  name : List ℕ
  value : List ℕ
  noted : StandsIn (notes.ReadValue name version value) h

told_in : (name : List ℕ) (version : ℕ) (h : List Note) → list_any (tells_version name version) h ≡ true → IsToldIn h version
told_in name version [] e = absurd (cc e)
told_in name version (n ∷ ns) e = go n (tells_version name version n) refl (told_in name version ns) e where
  more : (n : Note) → IsToldIn ns version → IsToldIn (n ∷ ns) version
  more n t = record { name = t.name; value = t.value; noted = inr t.noted }

  here : (n : Note) → tells_version name version n ≡ true → IsToldIn (n ∷ ns) version
  here (notes.Begin txn payload) q = absurd (cc q)
  here (notes.Take txn) q = absurd (cc q)
  here (notes.ReadValue object at value) q =
      let same : at ≡ version = eqb-true at version (right_of (same_name object name) (at == version) q) in
      record { name = object; value = value; noted = inl (ap (λ (v : ℕ). notes.ReadValue object v value) (sym same)) }
  here (notes.Decide txn decision) q = absurd (cc q)

  go : (n : Note) (b : Bool) → tells_version name version n ≡ b → (list_any (tells_version name version) ns ≡ true → IsToldIn ns version) → list_any (tells_version name version) (n ∷ ns) ≡ true → IsToldIn (n ∷ ns) version
  go n true is ih q = here n is
  go n false is ih q = more n (ih (rw is at q))

read_up_to : (top : ℕ) (w : World) (r : Reading) → Known top w → WasRead w.history r → r.version ≤ top
read_up_to top w r k s = let t = told_in (account_name r.account) r.version w.history s in k.read t.name r.version t.value t.noted

seen_up_to : (top : ℕ) (w : World) (t : Transfer) → Known top w → Seen w.history t → IsUpTo top t
seen_up_to top w Idle k s = tt
seen_up_to top w (Begun from to) k s = tt
seen_up_to top w (Half from to) k s = read_up_to top w from k s
seen_up_to top w (Whole from to) k s = (read_up_to top w from k s.0, read_up_to top w to k s.1)

pub has_room : (top : ℕ) (t : Transfer) → top < 18446744073709551615 → IsUpTo top t → HasRoom t
has_room top Idle few u = tt
has_room top (Begun from to) few u = tt
has_room top (Half from to) few u = tt
has_room top (Whole from to) few u = let f : from.version ≤ top = u.0 in let t : to.version ≤ top = u.1 in (omega (arith, few, f), omega (arith, few, t))

-- ---- what an event leaves

numbers_up_to : (sent more : ℕ) (ns : List ℕ) → AllByRecursion (IsNumber sent) ns → AllByRecursion (IsNumber (sent + more)) ns
numbers_up_to sent more [] h = tt
numbers_up_to sent more (n ∷ ns) h = (record { some = h.0.some; few = let f : n ≤ sent = h.0.few in omega (arith, f) }, numbers_up_to sent more ns h.1)

numbers_from : (top at count : ℕ) → 1 ≤ at → at + count ≤ top + 1 → AllByRecursion (IsNumber top) (range_with_len at count)
numbers_from top at zero some few = tt
numbers_from top at (suc count) some few = (record { some = some; few = omega (arith, few) }, numbers_from top (at + 1) count (omega arith) (omega (arith, few)))

each-joined : {X : Type 0} (P : X → Type 0) (xs ys : List X) → AllByRecursion P xs → AllByRecursion P ys → AllByRecursion P (xs ++ ys)
each-joined P [] ys a b = b
each-joined P (x ∷ xs) ys a b = (a.0, each-joined P xs ys a.1 b)

reading_keeps : (t : Transfer) (version : ℕ) (value : List ℕ) → IsTransfer t → IsTransfer (with_reading t version value)
reading_keeps Idle version value a = tt
reading_keeps (Begun from to) version value a = a
reading_keeps (Half from to) version value a = a
reading_keeps (Whole from to) version value a = tt

notes_keep : (t : Transfer) (ns : List Note) → IsTransfer t → IsTransfer (with_notes t ns)
notes_keep t [] a = tt
notes_keep t (notes.Begin txn payload ∷ ns) a = tt
notes_keep t (notes.Take txn ∷ ns) a = tt
notes_keep t (notes.ReadValue name version value ∷ ns) a = reading_keeps t version value a
notes_keep t (notes.Decide txn decision ∷ ns) a = tt

heard_keeps : (read : Bool) (ns : List Note) (t : Transfer) → IsTransfer t → IsTransfer (heard read ns t)
heard_keeps true ns t a = notes_keep t ns a
heard_keeps false ns t a = a

begun_more : (top sent : ℕ) (w : World) (doing : Doing) (event : Event) (ns : List Note) → event ≡ event_of w doing → IsWell sent top doing → BegunUpTo top w.history → (ns ≡ []) ⊎ OneAt event ns
    → BegunUpTo (suc top) (w.history ++ ns)
begun_more top sent w doing event ns e is b one txn payload s = go (StandsIn-append w.history ns (notes.Begin txn payload) s) where
  well : doing ≡ doings.Certify payload → payload.version ≤ suc top
  well q = let p : IsWell sent top (doings.Certify payload) = subst (IsWell sent top) q is in let above : payload.version ≤ top + 1 = p.2 in omega (arith, above)

  at : (n : Note) → NotedAt event n → StandsIn (notes.Begin txn payload) (n ∷ []) → payload.version ≤ suc top
  at n fits (inr none) = absurd none
  at n fits (inl q) = let f : NotedAt event (notes.Begin txn payload) = subst (NotedAt event) (sym q) fits in well (hands_in w doing f.0 payload (sym e ∙ f.1))

  new : (ns ≡ []) ⊎ OneAt event ns → StandsIn (notes.Begin txn payload) ns → payload.version ≤ suc top
  new (inl none) q = absurd (subst (StandsIn (notes.Begin txn payload)) none q)
  new (inr o) q = at o.note o.fits (subst (StandsIn (notes.Begin txn payload)) o.is q)

  go : StandsIn (notes.Begin txn payload) w.history ⊎ StandsIn (notes.Begin txn payload) ns → payload.version ≤ suc top
  go (inl old) = let few : payload.version ≤ top = b txn payload old in omega (arith, few)
  go (inr q) = new one q

-- ---- one event more

-- a state after so many events, while the run goes on
pub record Stands (place : ℕ) (s : State) : Type 0 where
  pub kept : IsKept (length (world_of s.progress).messages) s.course
  pub begun : BegunUpTo place (world_of s.progress).history

stands_stepped : (place : ℕ) (p : Progress) (event : Event) (doing : Doing) (c : CourseState) → event ≡ event_of (world_of p) doing → IsWell (length (world_of p).messages) place doing
    → IsKept (length (world_of p).messages) c → BegunUpTo place (world_of p).history
    → is_live (serial_step p event).after ≡ true
    → Stands (suc place) (record { course = with_answer (length (world_of p).messages) (is_read doing) (serial_step p event).answer c; progress = (serial_step p event).after })
unfolding serial_step limited_step
stands_stepped place (Live w count bytes) event doing c e is k b =
    let h = world_step serial 1 w event in
    let adds = event-adds serial 1 w event in
    by_guard {A = Step} (λ s. is_live s.after ≡ true → Stands (suc place) (record { course = with_answer (length w.messages) (is_read doing) s.answer c; progress = s.after }))
    (nat_lt frame_limit (bytes + frame_bytes h.sent))
    (λ full live. absurd (cc live))
    (λ goes live.
    let sent : length h.after.messages ≡ length w.messages + length h.sent = ap (λ (ms : List Sent). length ms) adds.messages ∙ length-append w.messages h.sent in
    record {
      kept = record {
        numbers = subst (λ n. AllByRecursion (IsNumber n) (c.queue ++ numbers_behind (length w.messages) (length h.sent))) (sym sent)
            (each-joined (IsNumber (length w.messages + length h.sent)) c.queue (numbers_behind (length w.messages) (length h.sent)) (numbers_up_to (length w.messages) (length h.sent) c.queue k.numbers)
            (numbers_from (length w.messages + length h.sent) (length w.messages + 1) (length h.sent) (omega arith) (omega arith)));
        accounts = heard_keeps (is_read doing) h.notes c.transfer k.accounts;
      };
      begun = subst (BegunUpTo (suc place)) (sym adds.history) (begun_more place (length w.messages) w doing event h.notes e is b (event_notes serial 1 w event));
    })
stands_stepped place (Ended w count bytes) event doing c e is k b = λ live. absurd (cc live)

live_before : (p : Progress) (event : Event) → is_live (serial_step p event).after ≡ true → is_live p ≡ true
unfolding serial_step limited_step
live_before (Live w count bytes) event live = refl
live_before (Ended w count bytes) event live = absurd (cc live)

-- ---- a moment of a run that goes on

pub record Fits (seed count place : ℕ) : Type 0 where
  pub events : AreEventsOf setup (events_until seed count place)
  pub stands : Stands place (generated seed count place)

-- what follows of it
pub record Ready (seed count place : ℕ) : Type 0 where
  pub well : IsChosenWell (length (world_of (generated seed count place).progress).messages) place (next count (suc place) (generated seed count place))
  pub up_to : IsUpTo place (generated seed count place).course.transfer
  pub next : MayStand setup (next_event count (suc place) (generated seed count place))

known : (top : ℕ) (events : List Event) (p : Progress) → AreEventsOf setup events → limited_run serial setup events ≡ p → is_live p ≡ true → BegunUpTo top (world_of p).history → Known top (world_of p)
known top events (Live w count bytes) a is live b =
    let l : LimitHolds serial setup events (Live w count bytes) = subst (LimitHolds serial setup events) is (limit_holds serial setup events) in
    subst (Known top) (sym l.world) (run_known top events a (subst (λ (x : World). BegunUpTo top x.history) l.world b))
known top events (Ended w count bytes) a is live b = absurd (cc live)

few_messages : (events : List Event) (p : Progress) → limited_run serial setup events ≡ p → is_live p ≡ true → length (world_of p).messages ≤ 2 ^ 28
few_messages events (Live w count bytes) is live =
    let c : CountsHold events (Live w count bytes) = subst (CountsHold events) is (run-counted serial setup events) in c.few
few_messages events (Ended w count bytes) is live = absurd (cc live)

ready : (seed count place : ℕ) → place + 1 < 2 ^ 64 → is_live (generated seed count place).progress ≡ true → Fits seed count place → Ready seed count place
ready seed count place few live f =
    let s = generated seed count place in
    let w = world_of s.progress in
    let events = events_until seed count place in
    let is = sym (run_is seed count place) in
    let k : Known place w = known place events s.progress f.events is live f.stands.begun in
    let up : IsUpTo place s.course.transfer = seen_up_to place w s.course.transfer k (always_honest seed count place).seen in
    let x : IsChosenWell (length w.messages) place (next count (suc place) s) = chosen_well count (suc place) (length w.messages) place (waits_in w) s.course few (always_sent seed count place) f.stands.kept up in
    record { well = x; up_to = up; next = may_stand place w (next count (suc place) s).doing k (few_messages events s.progress is live) x.doing }

first_fits : (seed count : ℕ) → Fits seed count zero
unfolding generated events_until first_world
first_fits seed count = record {
  events = record { deployment = setup_is; events = tt };
  stands = record { kept = record { numbers = tt; accounts = tt }; begun = λ txn payload s. absurd s };
}

fits_on : (seed count place : ℕ) → Fits seed count place → Ready seed count place → is_live (generated seed count (suc place)).progress ≡ true → Fits seed count (suc place)
unfolding generated events_until
fits_on seed count place f r live =
    let s = generated seed count place in
    let x = next count (suc place) s in
    let event = next_event count (suc place) s in
    record {
      events = record { deployment = setup_is; events = each-joined (MayStand setup) (events_until seed count place) (event ∷ []) f.events.events (r.next, tt) };
      stands = stands_stepped place s.progress event x.doing x.course refl r.well.doing r.well.kept f.stands.begun live;
    }

lived : (seed count place : ℕ) → is_live (generated seed count (suc place)).progress ≡ true → is_live (generated seed count place).progress ≡ true
unfolding generated
lived seed count place live = live_before (generated seed count place).progress (next_event count (suc place) (generated seed count place)) live

pub fits : (seed count place : ℕ) → place + 1 < 2 ^ 64 → is_live (generated seed count place).progress ≡ true → Fits seed count place
fits seed count zero few live = first_fits seed count
fits seed count (suc place) few live =
    let before = lived seed count place live in
    let less : place + 1 < 2 ^ 64 = omega (arith, few) in
    let f = fits seed count place less before in
    fits_on seed count place f (ready seed count place less before f) live

-- what comes next, of a schedule of at most 50,000 events
pub is_ready : (seed count place : ℕ) → place + 1 < 2 ^ 64 → is_live (generated seed count place).progress ≡ true → Ready seed count place
is_ready seed count place few live = ready seed count place few live (fits seed count place few live)
