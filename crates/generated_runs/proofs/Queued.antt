-- While numbers are queued, messages were sent.
use Rattle.std.proofs.Common.{◌≡◌, ℕ, zero, suc, ◌+◌, ◌<◌, ◌≤◌, Bool, nat_lt, List, [], ◌∷◌, length, length-append, Option, Some, None, ap, ◌∙◌, arith}
use Rattle.std.proofs.lemmas.List.FromFn.{length-range_with_len}
use Rattle.cert_serial.specs.Serial.{serial}
use Rattle.tcs_terms.specs.declared.inputs.Event.{Event}
use Rattle.protocol.specs.Limit.{Progress, Step, frame_bytes, frame_limit, limited_step}
use Rattle.protocol.specs.Limit.Progress.{Live, Ended}
use Rattle.protocol.specs.World.{world_step}
use Rattle.protocol_laws.specs.Promises.{world_of}
use Rattle.protocol_laws.proofs.Guards.{by_guard}
use Rattle.protocol_laws.proofs.RunsOn.{event-adds}
use Rattle.generator.specs.declared.transfers.Transfer.{Transfer}
use Rattle.generator.specs.declared.transfers.Transfer.TheVariants.{Idle, Begun, Half, Whole}
use Rattle.generator.specs.declared.doings.Doing.{Doing}
use Rattle.generator.specs.Choices.{fixed_at}
use Rattle.generator.specs.Courses.{CourseState, Chosen, goes_on, delivers_first, delivers_second, by_word, fixed_or, chosen}
use Rattle.generator.specs.Words.{word, later}
use Rattle.generated_runs.specs.Sights.{waits_in}
use Rattle.generated_runs.specs.Runs.{State, next, next_event, is_read, serial_step, with_answer, after, generated}
use Rattle.generated_runs.proofs.Choosing.{by_word-each}

-- ---- what is chosen makes the queue no longer

abbrev pub Within : ℕ → Chosen → Type 0
Within n x = length x.course.queue ≤ n

goes_on-within : (n : ℕ) (c : CourseState) (t : Transfer) → length c.queue ≤ n → Within n (goes_on c t)
goes_on-within n c Idle l = l
goes_on-within n c (Begun from to) l = l
goes_on-within n c (Half from to) l = l
goes_on-within n c (Whole from to) l = l

first-within : (n : ℕ) (c : CourseState) (queue : List ℕ) → length queue ≤ n → length c.queue ≤ n → Within n (delivers_first c queue)
first-within n c [] q l = l
first-within n c (m ∷ ms) q l = omega (arith, q)

second-within : (n : ℕ) (c : CourseState) (queue : List ℕ) → length queue ≤ n → length c.queue ≤ n → Within n (delivers_second c queue)
second-within n c [] q l = l
second-within n c (k ∷ []) q l = l
second-within n c (k ∷ m ∷ ms) q l = omega (arith, q)

by_word-within : (n : ℕ) (waits : Bool) (sent w : ℕ) (c : CourseState) → length c.queue ≤ n → Within n (by_word waits sent w c)
by_word-within n waits sent w c l = by_word-each (Within n) waits sent w c l (goes_on-within n c c.transfer l) l (second-within n c c.queue l l) (first-within n c c.queue l l)

fixed_or-within : (n : ℕ) (fixed : Option Doing) (waits : Bool) (sent : ℕ) (c : CourseState) → length c.queue ≤ n → Within n (fixed_or fixed waits sent c)
fixed_or-within n None waits sent c l = by_word-within n waits sent (word c.words) (record c { words = later c.words }) l
fixed_or-within n (Some doing) waits sent c l = l

chosen_within : (count place : ℕ) (waits : Bool) (sent : ℕ) (c : CourseState) → Within (length c.queue) (chosen count place waits sent c)
chosen_within count place waits sent c = fixed_or-within (length c.queue) (fixed_at count place) waits sent c (omega arith)

-- ---- one event more

abbrev pub IsSent : State → Type 0
IsSent s = 0 < length s.course.queue → 0 < length (world_of s.progress).messages

sent_stepped : (p : Progress) (event : Event) (doing : Doing) (c : CourseState) → (0 < length c.queue → 0 < length (world_of p).messages)
    → IsSent (record { course = with_answer (length (world_of p).messages) (is_read doing) (serial_step p event).answer c; progress = (serial_step p event).after })
unfolding serial_step limited_step
sent_stepped (Live w count bytes) event doing c sent =
    let h = world_step serial 1 w event in
    let adds = event-adds serial 1 w event in
    by_guard {A = Step} (λ s. IsSent (record { course = with_answer (length w.messages) (is_read doing) s.answer c; progress = s.after })) (nat_lt frame_limit (bytes + frame_bytes h.sent))
    (λ full. sent)
    (λ goes queued. grows (length c.queue) (length w.messages) (length h.sent) _ (length h.after.messages) sent
    (length-append c.queue _ ∙ ap (λ n. length c.queue + n) (length-range_with_len (length w.messages + 1) (length h.sent)))
    (ap length adds.messages ∙ length-append w.messages h.sent) queued) where
      grows : (queue messages more queue' messages' : ℕ) → (0 < queue → 0 < messages) → queue' ≡ queue + more → messages' ≡ messages + more → 0 < queue' → 0 < messages'
      grows zero messages more queue' messages' old q m now = omega (arith, q, m, now)
      grows (suc queue) messages more queue' messages' old q m now = omega (arith, m, old (omega arith))
sent_stepped (Ended w count bytes) event doing c sent = sent

sent_after : (count place : ℕ) (s : State) → IsSent s → IsSent (after count place s)
sent_after count place s sent =
    let w = world_of s.progress in
    let x = next count place s in
    let within = chosen_within count place (waits_in w) (length w.messages) s.course in
    sent_stepped s.progress (next_event count place s) x.doing x.course (λ queued. sent (omega (arith, within, queued)))

pub always_sent : (seed count place : ℕ) → IsSent (generated seed count place)
unfolding generated
always_sent seed count zero = λ queued. absurd (omega (arith, queued))
always_sent seed count (suc place) = sent_after count (suc place) (generated seed count place) (always_sent seed count place)
