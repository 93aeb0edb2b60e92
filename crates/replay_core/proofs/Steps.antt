-- One step of a run: what it shows, and where the run stands behind it.
use Rattle.std.proofs.Common.{◌≡◌, ◌⊎◌, inl, inr, ℕ, ◌+◌, ◌-◌, ◌≤◌, true, false, List, [], ◌∷◌, ◌++◌, length, map, drop, Result, Ok, Err, refl, sym, ◌∙◌, ap, subst, append_assoc, length-append, arith}
use Rattle.std.specs.List.{flat_map}
use Rattle.std.proofs.lemmas.List.{drop_at}
use Rattle.tcs_terms.specs.declared.inputs.Event.{Event}
use Rattle.tcs_terms.specs.declared.inputs.Note.{Note}
use Rattle.tcs_terms.specs.declared.inputs.Result1.{Result1}
use Rattle.tcs_terms.specs.Setups.{Deployment}
use Rattle.tcs_laws.specs.Certification.{Tests}
use Rattle.trace_text.specs.Lines.{EventLine, NoteLine, printed}
use Rattle.trace_text.specs.Traces.{message_lines}
use Rattle.protocol.specs.Limit.{Progress as Run, Answer, Step, limited_step}
use Rattle.protocol.specs.Limit.Progress.{Live, Ended}
use Rattle.protocol.specs.Limit.Answer.{Happens, SoupFull}
use Rattle.protocol.specs.World.{World, Sent, Happening as Came, world_step}
use Rattle.replay_core.specs.declared.runs.RunStop.{RunStop}
use Rattle.replay_core.specs.declared.runs.RunStop.TheVariants as runs
use Rattle.protocol_laws.specs.Promises.{world_of}
use Rattle.world.specs.WorldState.{events_of}
use Rattle.replay_core.specs.Steps.{Tells, stop_of_run}
use Rattle.replay_core.specs.Trace.{tests_of, run_of, answer_to, is_live, sending, trace_front}
use Rattle.replay_core.specs.Standing.{RunsAt, Stepped, StopsStepping}
use Rattle.protocol_laws.proofs.RunsOn.{event-adds}
use Rattle.replay_core.proofs.TraceLemmas.{Goes, Ends, live_step, event_text_is, front_on, run_on}

-- a step of the run is one of the definition
step_is : (tests : Tests) (setup : Deployment) (p : Run) (d : Deployment) (es : List Event) (e : Event) → RunsAt tests setup p d es
    → limited_step tests setup.version p e ≡ limited_step (tests_of d.rule) d.version (run_of d es) e
step_is tests setup p d es e r =
    ap (λ (t : Tests). limited_step t setup.version p e) r.certifier ∙ ap (λ (s : Deployment). limited_step (tests_of d.rule) s.version p e) r.of
    ∙ ap (λ (q : Run). limited_step (tests_of d.rule) d.version q e) r.so_far

-- what is written of a step: its line, its notes, its messages
abbrev pub written : (k noted sent : ℕ) → Result1 → World → List ℕ
written k noted sent result w =
    (printed (EventLine k result) ++ flat_map (λ note. printed (NoteLine note)) (drop noted w.history))
    ++ flat_map printed (message_lines (sent + 1) (map sending (drop (sent + 1 - 1) w.messages)))

-- a step that was taken
pub record Taken (d : Deployment) (es : List Event) (e : Event) (result : Result1) (s : Step) : Type 0 where
  pub world : World
  pub count : ℕ
  pub bytes : ℕ
  pub before : run_of d es ≡ Live world count bytes
  pub came : Came
  pub answer : s.answer ≡ Happens result came.notes came.sent
  pub sum : ℕ
  pub after : s.after ≡ Live came.after (count + 1) sum
  pub messages : came.after.messages ≡ world.messages ++ came.sent
  pub history : came.after.history ≡ world.history ++ came.notes

told_same : (told : Result1) (a : Answer) (result : Result1) (notes : List Note) (sent : List Sent) → a ≡ Happens result notes sent → ◌≡◌ {A = Unit {0}} tt tt → Tells (Ok told) a → told ≡ result
told_same told (Happens r ns ms) result notes sent e u t = t ∙ same r ns ms e where
  same : (r : Result1) (ns : List Note) (ms : List Sent) → Happens r ns ms ≡ Happens result notes sent → r ≡ result
  same r ns ms e = cc
told_same told (SoupFull bytes) result notes sent e u t = absurd t

not_full : (told : Result1) (a : Answer) (sum : ℕ) → a ≡ SoupFull sum → Tells (Ok told) a → ⊥
not_full told (Happens r ns ms) sum e t = absurd cc
not_full told (SoupFull bytes) sum e t = t

taken : (d : Deployment) (es : List Event) (e : Event) (result : Result1) (q : Run) → run_of d es ≡ q → is_live q ≡ true → Tells (Ok result) (limited_step (tests_of d.rule) d.version q e).answer
    → Taken d es e result (limited_step (tests_of d.rule) d.version q e)
taken d es e result (Live w count bytes) is live tells = go (live_step (tests_of d.rule) d.version w count bytes e) where
  go : Goes w count (world_step (tests_of d.rule) d.version w e) (limited_step (tests_of d.rule) d.version (Live w count bytes) e) ⊎ Ends (limited_step (tests_of d.rule) d.version (Live w count bytes) e)
      → Taken d es e result (limited_step (tests_of d.rule) d.version (Live w count bytes) e)
  go (inl g) =
      let h = world_step (tests_of d.rule) d.version w e in
      let adds = event-adds (tests_of d.rule) d.version w e in
      let same : result ≡ h.result = told_same result (limited_step (tests_of d.rule) d.version (Live w count bytes) e).answer h.result h.notes h.sent g.answer refl tells in
      record {
        world = w;
        count = count;
        bytes = bytes;
        before = is;
        came = h;
        answer = g.answer ∙ ap (λ (r : Result1). Happens r h.notes h.sent) (sym same);
        sum = g.bytes;
        after = g.after;
        messages = adds.messages;
        history = adds.history;
      }
  go (inr x) = absurd (not_full result (limited_step (tests_of d.rule) d.version (Live w count bytes) e).answer x.sum x.answer tells)
taken d es e result (Ended w count bytes) is live tells = absurd cc

-- the run stands behind the event, and what was written is what belongs to it
pub stepped : (tests : Tests) (setup setup' : Deployment) (p p' : Run) (d : Deployment) (es : List Event) (e : Event) (result : Result1) (k noted sent : ℕ) (text : List ℕ) → RunsAt tests setup p d es
    → Tells (Ok result) (limited_step tests setup.version p e).answer → p' ≡ (limited_step tests setup.version p e).after → setup' ≡ setup
    → k ≡ events_of p' → noted ≡ length (world_of p).history → sent ≡ length (world_of p).messages → text ≡ written k noted sent result (world_of p')
    → Stepped d es e text × RunsAt tests setup' p' d (es ++ e ∷ [])
stepped tests setup setup' p p' d es e result k noted sent text r tells after same is_k is_noted is_sent is =
    let step = limited_step (tests_of d.rule) d.version (run_of d es) e in
    let one = step_is tests setup p d es e r in
    let t = taken d es e result (run_of d es) refl r.within (subst (λ (s : Step). Tells (Ok result) s.answer) one tells) in
    let p_is : p ≡ Live t.world t.count t.bytes = r.so_far ∙ t.before in
    let p'_is : p' ≡ Live t.came.after (t.count + 1) t.sum = after ∙ ap (λ (s : Step). s.after) one ∙ t.after in
    let k_is : k ≡ t.count + 1 = is_k ∙ ap events_of p'_is in
    let noted_is : noted ≡ length t.world.history = is_noted ∙ ap (λ (q : Run). length (world_of q).history) p_is in
    let sent_is : sent ≡ length t.world.messages = is_sent ∙ ap (λ (q : Run). length (world_of q).messages) p_is in
    let back : sent + 1 - 1 ≡ length t.world.messages = omega (arith, sent_is) in
    let notes : drop noted (world_of p').history ≡ t.came.notes =
    ap (λ (q : Run). drop noted (world_of q).history) p'_is ∙ ap (drop noted) t.history ∙ drop_at t.world.history t.came.notes noted (sym noted_is) in
    let messages : drop (sent + 1 - 1) (world_of p').messages ≡ t.came.sent =
    ap (λ (q : Run). drop (sent + 1 - 1) (world_of q).messages) p'_is ∙ ap (drop (sent + 1 - 1)) t.messages ∙ drop_at t.world.messages t.came.sent (sent + 1 - 1) (sym back) in
    let text_is : text ≡ (printed (EventLine (t.count + 1) result) ++ flat_map (λ note. printed (NoteLine note)) t.came.notes)
    ++ flat_map printed (message_lines (length t.world.messages + 1) (map sending t.came.sent)) =
    is ∙ ap (λ n. (printed (EventLine n result) ++ flat_map (λ note. printed (NoteLine note)) (drop noted (world_of p').history)) ++ flat_map printed (message_lines (sent + 1) (map sending (drop (sent + 1 - 1) (world_of p').messages)))) k_is
    ∙ ap (λ (ns : List Note). (printed (EventLine (t.count + 1) result) ++ flat_map (λ note. printed (NoteLine note)) ns) ++ flat_map printed (message_lines (sent + 1) (map sending (drop (sent + 1 - 1) (world_of p').messages)))) notes
    ∙ ap (λ (ms : List Sent). (printed (EventLine (t.count + 1) result) ++ flat_map (λ note. printed (NoteLine note)) t.came.notes) ++ flat_map printed (message_lines (sent + 1) (map sending ms))) messages
    ∙ ap (λ n. (printed (EventLine (t.count + 1) result) ++ flat_map (λ note. printed (NoteLine note)) t.came.notes) ++ flat_map printed (message_lines (n + 1) (map sending t.came.sent))) sent_is in
    let goes_on : run_of d (es ++ e ∷ []) ≡ Live t.came.after (t.count + 1) t.sum = run_on d es e ∙ t.after in (
      front_on d es e t.world t.count t.bytes result t.came.notes t.came.sent t.before t.answer
          ∙ ap (λ (x : List ℕ). trace_front d es ++ x) (event_text_is (t.count + 1) (length t.world.messages + 1) result t.came.notes t.came.sent ∙ sym text_is),
      record { certifier = r.certifier; of = same ∙ r.of; so_far = p'_is ∙ sym goes_on; within = ap is_live goes_on },
    )

-- a step that was not taken
full_told : (a : Answer) (sum : ℕ) → Tells (Err (runs.Full sum)) a → a ≡ SoupFull sum
full_told (Happens r ns ms) sum t = absurd t
full_told (SoupFull bytes) sum t = ap SoupFull (sym t)

pub step_stops : (tests : Tests) (setup : Deployment) (p : Run) (d : Deployment) (es : List Event) (e : Event) (stop : RunStop) → RunsAt tests setup p d es
    → Tells (Err stop) (limited_step tests setup.version p e).answer → StopsStepping d es e (stop_of_run stop)
step_stops tests setup p d es e (runs.Full sum) r tells =
    ap (λ (s : Step). s.answer) (sym (step_is tests setup p d es e r)) ∙ full_told (limited_step tests setup.version p e).answer sum tells
step_stops tests setup p d es e runs.OutOfMemory r tells = tt

-- ---- what is added

no_answer : (told : Result1) (tests : Tests) (version : ℕ) (w : World) (count bytes : ℕ) (e : Event) → Tells (Ok told) (limited_step tests version (Ended w count bytes) e).answer → ⊥
unfolding limited_step
no_answer told tests version w count bytes e t = t

-- a step that is taken takes no note and no message away
pub grows : (tests : Tests) (version : ℕ) (p : Run) (e : Event) (told : Result1) → Tells (Ok told) (limited_step tests version p e).answer
    → (length (world_of p).history ≤ length (world_of (limited_step tests version p e).after).history) × (length (world_of p).messages ≤ length (world_of (limited_step tests version p e).after).messages)
grows tests version (Live w count bytes) e told t = go (live_step tests version w count bytes e) where
  go : Goes w count (world_step tests version w e) (limited_step tests version (Live w count bytes) e) ⊎ Ends (limited_step tests version (Live w count bytes) e)
      → (length w.history ≤ length (world_of (limited_step tests version (Live w count bytes) e).after).history) × (length w.messages ≤ length (world_of (limited_step tests version (Live w count bytes) e).after).messages)
  go (inl g) =
      let h = world_step tests version w e in
      let adds = event-adds tests version w e in (
        omega (arith, ap (λ (q : Run). length (world_of q).history) g.after, ap length adds.history, length-append w.history h.notes),
        omega (arith, ap (λ (q : Run). length (world_of q).messages) g.after, ap length adds.messages, length-append w.messages h.sent),
      )
  go (inr x) = absurd (not_full told (limited_step tests version (Live w count bytes) e).answer x.sum x.answer t)
grows tests version (Ended w count bytes) e told t = absurd (no_answer told tests version w count bytes e t)

-- what was put into the text
pub written_is : (k noted sent : ℕ) (result : Result1) (w : World) (cleared middle text : List ℕ) (notes history : List Note) → cleared ≡ []
    → middle ≡ cleared ++ printed (EventLine k result) ++ flat_map (λ note. printed (NoteLine note)) notes → notes ≡ drop noted history → history ≡ w.history
    → text ≡ middle ++ flat_map printed (message_lines (sent + 1) (map sending (drop (sent + 1 - 1) w.messages))) → text ≡ written k noted sent result w
written_is k noted sent result w cleared middle text notes history none happening of is messages =
    let rest = flat_map printed (message_lines (sent + 1) (map sending (drop (sent + 1 - 1) w.messages))) in
    messages ∙ ap (λ (t : List ℕ). t ++ rest)
    (happening ∙ ap (λ (t : List ℕ). t ++ printed (EventLine k result) ++ flat_map (λ note. printed (NoteLine note)) notes) none
    ∙ ap (λ (ns : List Note). printed (EventLine k result) ++ flat_map (λ note. printed (NoteLine note)) ns) (of ∙ ap (drop noted) is))
