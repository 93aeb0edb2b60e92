-- A step that was taken: what it adds to the run.
use Rattle.std.proofs.Common.{◌≡◌, ℕ, ◌+◌, ◌-◌, ◌<◌, Bool, true, false, nat_lt, List, ◌++◌, length, length-append, drop, Result, Ok, Err, refl, sym, subst, ap, ◌∙◌, arith}
use Rattle.std.specs.Prelude.{IfOk, IfErr}
use Rattle.std.proofs.lemmas.List.{drop_at}
use Rattle.tcs_laws.specs.Certification.{Tests}
use Rattle.tcs_terms.specs.Setups.{Deployment}
use Rattle.cert_serial.specs.Serial.{serial}
use Rattle.tcs_terms.specs.declared.inputs.Event.{Event}
use Rattle.tcs_terms.specs.declared.inputs.Note.{Note}
use Rattle.tcs_terms.specs.declared.inputs.Result1.{Result1}
use Rattle.protocol.specs.Limit.{Progress, Step, frame_bytes, frame_limit, limited_step}
use Rattle.protocol.specs.Limit.Progress.{Live, Ended}
use Rattle.protocol.specs.Limit.{Answer}
use Rattle.protocol.specs.Limit.Answer.{Happens, SoupFull}
use Rattle.protocol.specs.World.{Sent, world_step}
use Rattle.protocol_laws.specs.Promises.{world_of}
use Rattle.protocol_laws.proofs.Guards.{by_guard}
use Rattle.protocol_laws.proofs.RunsOn.{event-adds}
use Rattle.world.specs.declared.happenings.Happening.{Happening}
use Rattle.world.specs.declared.happenings.Stop.{Stop}
use Rattle.world.specs.declared.happenings.Stop.TheVariants as runs
use Rattle.world.specs.WorldState.{WorldState, Tells, is_memory}
use Rattle.generator.specs.Courses.{CourseState, numbers_behind}
use Rattle.generated_runs.specs.Setup.{setup}
use Rattle.generated_runs.specs.Runs.{serial_step, is_live, heard, with_answer}
use Rattle.workload.specs.Standing.{Took, told_of}
use Rattle.workload.specs.Stops.{StopsAt, stop_of_run}

record Taken (p : Progress) (s : Step) (told : Happening) : Type 0 where
  result : Result1
  notes : List Note
  sent : List Sent
  answer : s.answer ≡ Happens result notes sent
  messages : (world_of s.after).messages ≡ (world_of p).messages ++ sent
  history : (world_of s.after).history ≡ (world_of p).history ++ notes
  live : is_live s.after ≡ true
  noted : told.notes ≡ length notes
  sent_is : told.sent ≡ length sent

taken : (p : Progress) (e : Event) (told : Happening) → Tells (Ok told) (serial_step p e).answer → Taken p (serial_step p e) told
unfolding serial_step limited_step
taken (Live w count bytes) e told =
    let h = world_step serial 1 w e in
    let adds = event-adds serial 1 w e in
    by_guard {A = Step} (λ s. Tells (Ok told) s.answer → Taken (Live w count bytes) s told) (nat_lt frame_limit (bytes + frame_bytes h.sent))
    (λ full t. absurd t)
    (λ goes t. record {
      result = h.result;
      notes = h.notes;
      sent = h.sent;
      answer = refl;
      messages = adds.messages;
      history = adds.history;
      live = refl;
      noted = t.1;
      sent_is = t.2;
    })
taken (Ended w count bytes) e told = λ t. absurd t

-- the last of two joined lists
last_of : (h ns : List Note) (all : List Note) (count : ℕ) → all ≡ h ++ ns → count ≡ length ns → drop (length all - count) all ≡ ns
last_of h ns all count is e =
    let n : length all ≡ length h + length ns = ap (λ (xs : List Note). length xs) is ∙ length-append h ns in
    let at : length all - count ≡ length h = omega (arith, n, e) in
    rw (at, is) (drop_at h ns (length h) refl)

told_same : (old new : Progress) (told : Happening) (answer : Answer) (result : Result1) (notes : List Note) (sent : List Sent) → answer ≡ Happens result notes sent → told.sent ≡ length sent
    → drop (length (world_of new).history - told.notes) (world_of new).history ≡ notes → (reads : Bool) (c : CourseState)
    → with_answer (length (world_of old).messages) reads answer c ≡ told_of old new told reads c
told_same old new told answer result notes sent a s d reads c = rw (a, s, d) refl

took_step : (old new : Progress) (event : Event) (told : Happening) → new ≡ (serial_step old event).after → Tells (Ok told) (serial_step old event).answer → Took old event told new
took_step old new event told is t =
    let k = taken old event told t in
    let history : (world_of new).history ≡ (world_of old).history ++ k.notes = ap (λ (p : Progress). (world_of p).history) is ∙ k.history in
    let messages : (world_of new).messages ≡ (world_of old).messages ++ k.sent = ap (λ (p : Progress). (world_of p).messages) is ∙ k.messages in
    let noted : told.notes ≡ length k.notes = k.noted in
    let sent_is : told.sent ≡ length k.sent = k.sent_is in
    let histories : length (world_of new).history ≡ length (world_of old).history + length k.notes = ap (λ (ns : List Note). length ns) history ∙ length-append (world_of old).history k.notes in
    let all : length (world_of new).messages ≡ length (world_of old).messages + length k.sent = ap (λ (ms : List Sent). length ms) messages ∙ length-append (world_of old).messages k.sent in
    record {
      run = is;
      live = subst (λ (p : Progress). is_live p ≡ true) (sym is) k.live;
      notes = omega (arith, noted, histories);
      sent = omega (arith, sent_is, all);
      course = told_same old new told (serial_step old event).answer k.result k.notes k.sent k.answer sent_is (last_of (world_of old).history k.notes (world_of new).history told.notes history noted);
    }

-- ---- a step of the world

pub serial_is : (tests : Tests) (d : Deployment) (p : Progress) (event : Event) → tests ≡ serial → d ≡ setup → limited_step tests d.version p event ≡ serial_step p event
unfolding serial_step setup
serial_is tests d p event t is =
    ap (λ (x : Tests). limited_step x d.version p event) t ∙ ap (λ (f : Deployment). limited_step serial f.version p event) is

pub took : (tests : Tests) (old new : WorldState) (event : Event) (result : Result Happening Stop) → tests ≡ serial → old.setup ≡ setup → Tells result (limited_step tests old.setup.version old.progress event).answer
    → new.spent ≡ is_memory result → (new.spent ≡ false → new.progress ≡ (limited_step tests old.setup.version old.progress event).after)
    → IfOk result (λ told. Took old.progress event told new.progress)
took tests old new event (Ok told) t d answer spent goes =
    let is = serial_is tests old.setup old.progress event t d in
    took_step old.progress new.progress event told (goes spent ∙ ap (λ (s : Step). s.after) is) (subst (λ (s : Step). Tells (Ok told) s.answer) is answer)
took tests old new event (Err stop) t d answer spent goes = tt

told_stop : (answer : Answer) (stop : Stop) → Tells (Err stop) answer → StopsAt answer (stop_of_run stop)
told_stop (Happens result notes sent) (runs.SoupFull sum) t = absurd t
told_stop (Happens result notes sent) runs.OutOfMemory t = tt
told_stop (SoupFull bytes) (runs.SoupFull sum) t = ap (λ (n : ℕ). SoupFull n) (sym t)
told_stop (SoupFull bytes) runs.OutOfMemory t = tt

pub stopped : (tests : Tests) (old : WorldState) (event : Event) (result : Result Happening Stop) → tests ≡ serial → old.setup ≡ setup → Tells result (limited_step tests old.setup.version old.progress event).answer
    → IfErr result (λ stop. StopsAt (serial_step old.progress event).answer (stop_of_run stop))
stopped tests old event (Ok told) t d answer = tt
stopped tests old event (Err stop) t d answer =
    told_stop (serial_step old.progress event).answer stop (subst (λ (s : Step). Tells (Err stop) s.answer) (serial_is tests old.setup old.progress event t d) answer)

-- ---- what the generator keeps

pub kept : (old mid new : CourseState) (p q : Progress) (event : Event) (told : Happening) (reads : Bool) (before sent : ℕ) → Took p event told q
    → mid ≡ record old { transfer = heard reads (drop (length (world_of q).history - told.notes) (world_of q).history) old.transfer }
    → new ≡ record mid { queue = mid.queue ++ numbers_behind before sent } → before ≡ length (world_of p).messages → sent ≡ told.sent
    → new ≡ with_answer (length (world_of p).messages) reads (serial_step p event).answer old
kept old mid new p q event told reads before sent t m n b s = n ∙ rw (m, b, s) (sym (t.course reads old))

-- no number of a message is near the last of a u32
pub numbers_fit : frame_limit < 4294967295
unfolding frame_limit
numbers_fit = omega arith
