-- The lines of a script are read as they stand.
use Rattle.std.proofs.Common.{◌≡◌, ℕ, ◌+◌, ◌^◌, ◌<◌, ◌≤◌, true, false, List, [], ◌∷◌, ◌++◌, map, Option, Some, None, Ok, refl, sym, ◌∙◌, ap, append_assoc, arith, codes, decimal}
use Rattle.std.specs.Prelude.{nat_le, nat_lt, ◌&&◌}
use Rattle.std.specs.List.{AllByRecursion}
use Rattle.std.proofs.lemmas.Bool.Decides.{nat_tests}
use Rattle.tcs_terms.specs.declared.inputs.Input.TheVariants as inputs
use Rattle.tcs_terms.specs.declared.inputs.Event.{Event}
use Rattle.tcs_terms.specs.declared.inputs.Event.TheVariants as events
use Rattle.tcs_terms.specs.Setups.{Deployment}
use Rattle.text_words.specs.Words.{words_of, begins}
use Rattle.schedule_text.specs.declared.limits.TheConstants.{SCRIPT_LINES, MOST_TURNS, MOST_NODE_TURNS}
use Rattle.schedule_text.specs.declared.lines.Got.TheVariants.{Whole}
use Rattle.schedule_text.specs.declared.places.Place.{Place}
use Rattle.schedule_text.specs.declared.places.Place.TheVariants as places
use Rattle.schedule_text.specs.declared.script.ScriptForm.{ScriptForm}
use Rattle.schedule_text.specs.declared.script.ScriptForm.TheVariants as forms
use Rattle.schedule_text.specs.declared.script.ScriptItem.{ScriptItem}
use Rattle.schedule_text.specs.declared.script.ScriptItem.TheVariants as items
use Rattle.schedule_text.specs.declared.verbs.CallVerb.TheVariants as calls
use Rattle.schedule_text.specs.declared.verbs.Verb.{Verb}
use Rattle.schedule_text.specs.declared.verbs.Verb.TheVariants as verbs
use Rattle.schedule_text.specs.Text.{setup_lines, event_line}
use Rattle.schedule_text.specs.Header.{Head, head_at, no_parts}
use Rattle.schedule_text.specs.Schedules.{first_verb}
use Rattle.schedule_text.specs.Scripts.{ScriptProgress, script_start, only_of, script_head_item, script_header_at, script_end_at, turns_at, cluster_settle_at, node_settle_at, counted_settle_at, script_event_at, script_verb_at, script_body_at, script_reading}
use Rattle.schedule_text.specs.ScriptText.ScriptStep.{Happens, Settles}
use Rattle.schedule_text.specs.ScriptText.{ScriptStep, settle_line, step_line, script_lines, is_delivery, StepStands, counted, lines_counted, passed, turns_passed, MayPass, IsScript, script_reads, step_item, script_header_items, script_items, script_at_end}
use Rattle.schedule_text.proofs.EventReadings.{verb_word, names_verb}
use Rattle.schedule_text.proofs.EventSpellings.{Small, spellable, event_again}
use Rattle.schedule_text.proofs.HeaderLines.{standing, Heads, header_heads}
use Rattle.schedule_text.proofs.HeaderReadings.{in_header, head_lines, setup_is_whole}
use Rattle.schedule_text.proofs.HeaderSpellings.{events_again}
use Rattle.schedule_text.proofs.LineWords.{event_words, words_of_event, word_and_number}
use Rattle.schedule_text.proofs.NumberReadings.{number_reads, between_again}
use Rattle.schedule_text.proofs.ScheduleReadings.{small_setup}
use Rattle.text_words.proofs.Steps.{bind_ok, ok_is}

-- where a reader stands
abbrev pub script_at : ScriptForm → Place → Deployment → ℕ → ℕ → ScriptProgress
script_at form place d lines turns = record { form = form; head = record { place = place; setup = d }; lines = lines; turns = turns }

abbrev pub script_headed : List (List ℕ) → List ScriptItem
script_headed lines = map (λ line. items.Header) lines

-- ---- lines that are read, joined

reads_one : (p : ScriptProgress) (line : List ℕ) (i : ScriptItem) (q : ScriptProgress) (lines : List (List ℕ)) (is : List ScriptItem) (r : ScriptProgress)
    → script_reading p Whole line ≡ Ok (i, q) → script_reads q lines ≡ Ok (is, r) → script_reads p (line ∷ lines) ≡ Ok (i ∷ is, r)
reads_one p line i q lines is r h k = rw (h, k) refl

reads_append : (xs ys : List (List ℕ)) (p q : ScriptProgress) (is js : List ScriptItem) (r : ScriptProgress) → script_reads p xs ≡ Ok (is, q) → script_reads q ys ≡ Ok (js, r) → script_reads p (xs ++ ys) ≡ Ok (is ++ js, r)
reads_append [] ys p q is js r h k =
    let e : ◌≡◌ {A = List ScriptItem × ScriptProgress} ([], p) (is, q) = ok_is ([], p) (is, q) h in
    let i : [] ≡ is = ap (λ (x : List ScriptItem × ScriptProgress). x.0) e in
    let at : p ≡ q = ap (λ (x : List ScriptItem × ScriptProgress). x.1) e in
    rw (at, ← i) k
reads_append (x ∷ xs) ys p q is js r h k =
    let a = bind_ok (script_reading p Whole x) _ (is, q) h in
    let b = bind_ok (script_reads a.0.1 xs) _ (is, q) a.2 in
    let e : ◌≡◌ {A = List ScriptItem × ScriptProgress} (a.0.0 ∷ b.0.0, b.0.1) (is, q) = ok_is (a.0.0 ∷ b.0.0, b.0.1) (is, q) b.2 in
    let i : a.0.0 ∷ b.0.0 ≡ is = ap (λ (y : List ScriptItem × ScriptProgress). y.0) e in
    let at : b.0.1 ≡ q = ap (λ (y : List ScriptItem × ScriptProgress). y.1) e in
    let rest = reads_append xs ys a.0.1 b.0.1 b.0.0 js r b.1 (rw at k) in
    rw (← i) (reads_one p x a.0.0 a.0.1 (xs ++ ys) (b.0.0 ++ js) r a.1 rest)

-- ---- the header

line_read : (form : ScriptForm) (place : Place) (d : Deployment) (n t : ℕ) (line : List ℕ) (x : Option Deployment × Head) → in_header place ≡ true → head_at (only_of form) place d (words_of line) ≡ Ok x
    → script_reading (script_at form place d n t) Whole line ≡ Ok (script_head_item x.0, record { form = form; head = x.1; lines = n; turns = t })
unfolding script_header_at
line_read form places.Version d n t line x here h = rw h refl
line_read form places.Certifier d n t line x here h = rw h refl
line_read form places.Shards d n t line x here h = rw h refl
line_read form places.Parts d n t line x here h = rw h refl
line_read form places.Events d n t line x here h = absurd cc
line_read form places.Ended d n t line x here h = absurd cc

headed_read : (lines : List (List ℕ)) (form : ScriptForm) (h k : Head) → Heads (only_of form) h lines k
    → script_reads (record { form = form; head = h; lines = 0; turns = 0 }) lines ≡ Ok (script_headed lines, record { form = form; head = k; lines = 0; turns = 0 })
headed_read [] form h k p = ap (λ (m : Head). Ok ([], record { form = form; head = m; lines = 0; turns = 0 })) p
headed_read (line ∷ lines) form h k p =
    reads_one (record { form = form; head = h; lines = 0; turns = 0 }) line items.Header (record { form = form; head = p.0; lines = 0; turns = 0 }) lines (script_headed lines) _
    (line_read form h.place h.setup 0 0 line (None, p.0) p.1 p.2) (headed_read lines form p.0 k p.3)

setup_read : (form : ScriptForm) (d : Deployment) (steps : List ScriptStep) → IsScript form d steps
    → script_reads (script_start form) (setup_lines d) ≡ Ok (script_header_items d ++ items.Begun d ∷ [], script_at form places.Events d 0 0)
setup_read form d steps is =
    let last : script_reads (script_at form places.Parts d 0 0) (codes "events" ∷ []) ≡ Ok (items.Begun d ∷ [], script_at form places.Events d 0 0) =
    reads_one (script_at form places.Parts d 0 0) (codes "events") (items.Begun d) (script_at form places.Events d 0 0) [] [] _
    (line_read form places.Parts d 0 0 (codes "events") _ refl (events_again (only_of form) d is.setup is.place)) refl in
    ap (script_reads (script_start form)) (setup_is_whole d)
    ∙ reads_append (head_lines places.Parts d) (codes "events" ∷ []) (script_start form) (script_at form places.Parts d 0 0) (script_header_items d) (items.Begun d ∷ []) (script_at form places.Events d 0 0)
    (headed_read (head_lines places.Parts d) form (standing places.Version no_parts) (standing places.Parts d) (header_heads (only_of form) d is.setup)) last

-- ---- events

-- the verb of an event is known by its first word
verb_is : (e : Event) (v : Verb) (rest : List (List ℕ)) → event_words e ≡ verb_word v ∷ rest → first_verb (event_words e) ≡ Some v
verb_is e v rest same = ap first_verb same ∙ names_verb v

delivers_none : (e : Event) → is_delivery e ≡ false → first_verb (event_words e) ≡ Some verbs.Deliver → ⊥
delivers_none (events.Call node (inputs.Certify payload)) h k = absurd cc
delivers_none (events.Call node (inputs.Take txn)) h k = absurd cc
delivers_none (events.Call node inputs.Nudge) h k = absurd cc
delivers_none (events.Call node (inputs.Move shard want)) h k = absurd cc
delivers_none (events.Call node inputs.Lower) h k = absurd cc
delivers_none (events.Call node (inputs.ReadName name)) h k = absurd cc
delivers_none (events.Call node (inputs.Ask shard)) h k = absurd cc
delivers_none (events.Call node (inputs.Deliver from message)) h k = absurd cc
delivers_none (events.DeliverNumber number) h k = absurd cc
delivers_none (events.Stop node) h k = absurd cc

may_stand : (p : ScriptProgress) (e : Event) (v : Verb) (words : List (List ℕ)) → is_delivery e ≡ false → first_verb (event_words e) ≡ Some v → script_verb_at p (Some v) words ≡ script_event_at p v words
may_stand p e (verbs.Call call) words h k = refl
may_stand p e verbs.Deliver words h k = absurd (delivers_none e h k)
may_stand p e verbs.Stop words h k = refl

no_other : (v : Verb) (ws : List (List ℕ)) → (begins (codes "end") (verb_word v ∷ ws) ≡ false) × (begins (codes "settle") (verb_word v ∷ ws) ≡ false)
no_other (verbs.Call calls.Certify) ws = (refl, refl)
no_other (verbs.Call calls.Take) ws = (refl, refl)
no_other (verbs.Call calls.Nudge) ws = (refl, refl)
no_other (verbs.Call calls.Move) ws = (refl, refl)
no_other (verbs.Call calls.Lower) ws = (refl, refl)
no_other (verbs.Call calls.Read) ws = (refl, refl)
no_other (verbs.Call calls.Ask) ws = (refl, refl)
no_other verbs.Deliver ws = (refl, refl)
no_other verbs.Stop ws = (refl, refl)

event_read : (form : ScriptForm) (d : Deployment) (n t : ℕ) (e : Event) → Small d → StepStands form d (Happens e) → n < SCRIPT_LINES
    → script_reading (script_at form places.Events d n t) Whole (event_line e) ≡ Ok (items.Event e, script_at form places.Events d (n + 1) t)
unfolding script_body_at script_event_at
event_read form d n t e small stands room =
    let a = event_again (only_of form) d e small stands.0.event stands.0.fits stands.2 in
    let words = words_of_event e (spellable d e small stands.0.event stands.0.fits) ∙ a.spelled in
    let other = no_other a.verb a.rest in
    let may = may_stand (script_at form places.Events d n t) e a.verb a.rest stands.1 (verb_is e a.verb a.rest a.spelled) in
    let below : nat_lt n SCRIPT_LINES ≡ true = grind (arith, nat_tests) in
    rw (words, other.0, other.1, names_verb a.verb, may, below, a.read) refl

-- ---- turns that pass

pub settle_words : (turns : ℕ) → turns < 2 ^ 64 → words_of (settle_line turns) ≡ codes "settle" ∷ decimal turns ∷ []
settle_words turns small = word_and_number (codes "settle") turns refl small

cluster_read : (most : ℕ) (d : Deployment) (n t turns : ℕ) → StepStands (forms.Cluster most) d (Settles turns) → t + turns ≤ most
    → script_reading (script_at (forms.Cluster most) places.Events d n t) Whole (settle_line turns) ≡ Ok (items.Settle turns, script_at (forms.Cluster most) places.Events d n (t + turns))
unfolding script_body_at cluster_settle_at turns_at
cluster_read most d n t turns stands short =
    let low = stands.0 in
    let high = stands.1 in
    let small : turns < 2 ^ 64 = omega arith in
    let within : nat_lt most (t + turns) ≡ false = grind (arith, nat_tests) in
    let fits : (nat_le 1 turns && nat_le turns MOST_TURNS) ≡ true = grind (arith, nat_tests) in
    rw (settle_words turns small, number_reads turns [] small, within, fits) refl

node_read : (id : ℕ) (d : Deployment) (n t turns : ℕ) → StepStands (forms.Node id) d (Settles turns) → n < SCRIPT_LINES
    → script_reading (script_at (forms.Node id) places.Events d n t) Whole (settle_line turns) ≡ Ok (items.Settle turns, script_at (forms.Node id) places.Events d (n + 1) t)
unfolding script_body_at counted_settle_at node_settle_at
node_read id d n t turns stands room =
    let small : turns < 2 ^ 64 = omega (arith, stands.1) in
    let below : nat_lt n SCRIPT_LINES ≡ true = grind (arith, nat_tests) in
    rw (settle_words turns small, below, between_again 1 MOST_NODE_TURNS turns [] small stands.0 stands.1) refl

-- ---- any step

abbrev read_at : ScriptForm → Deployment → ScriptStep → (n t : ℕ) → Type 0
read_at form d step n t =
    script_reading (script_at form places.Events d n t) Whole (step_line step) ≡ Ok (step_item step, script_at form places.Events d (n + counted form step) (t + passed form step))

numbers_are : (form : ScriptForm) (d : Deployment) (item : ScriptItem) (n m t u : ℕ) → n ≡ m → t ≡ u → ◌≡◌ {A = ScriptItem × ScriptProgress} (item, script_at form places.Events d n t) (item, script_at form places.Events d m u)
numbers_are form d item n m t u p q =
    ap (λ (k : ℕ). (item, script_at form places.Events d k t)) p ∙ ap (λ (k : ℕ). (item, script_at form places.Events d m k)) q

step_read : (form : ScriptForm) (d : Deployment) (n t : ℕ) (step : ScriptStep) → Small d → StepStands form d step → n + counted form step ≤ SCRIPT_LINES → MayPass form (t + passed form step) → read_at form d step n t
step_read form d n t (Happens e) small stands few short =
    event_read form d n t e small stands (omega arith) ∙ ap Ok (numbers_are form d (items.Event e) (n + 1) (n + 1) t (t + 0) refl (omega arith))
step_read (forms.Cluster most) d n t (Settles turns) small stands few short =
    cluster_read most d n t turns stands short ∙ ap Ok (numbers_are (forms.Cluster most) d (items.Settle turns) n (n + 0) (t + turns) (t + turns) (omega arith) refl)
step_read (forms.Node id) d n t (Settles turns) small stands few short =
    node_read id d n t turns stands (omega arith) ∙ ap Ok (numbers_are (forms.Node id) d (items.Settle turns) (n + 1) (n + 1) t (t + 0) refl (omega arith))

pub may_pass_less : (form : ScriptForm) (a b : ℕ) → a ≤ b → MayPass form b → MayPass form a
may_pass_less (forms.Cluster most) a b le h = omega arith
may_pass_less (forms.Node id) a b le h = tt

steps_read : (steps : List ScriptStep) (form : ScriptForm) (d : Deployment) (n t : ℕ) → Small d → AllByRecursion (StepStands form d) steps
    → n + lines_counted form steps ≤ SCRIPT_LINES → MayPass form (t + turns_passed form steps)
    → script_reads (script_at form places.Events d n t) (map step_line steps) ≡ Ok (map step_item steps, script_at form places.Events d (n + lines_counted form steps) (t + turns_passed form steps))
steps_read [] form d n t small each few short =
    ap (λ (k : ℕ). Ok ([], script_at form places.Events d k t)) (omega arith) ∙ ap (λ (k : ℕ). Ok ([], script_at form places.Events d (n + 0) k)) (omega arith)
steps_read (step ∷ steps) form d n t small each few short =
    let m = n + counted form step in
    let u = t + passed form step in
    let first = step_read form d n t step small each.0 (omega arith) (may_pass_less form (t + passed form step) (t + turns_passed form (step ∷ steps)) (omega arith) short) in
    let others = steps_read steps form d (n + counted form step) (t + passed form step) small each.1 (omega arith)
    (may_pass_less form (t + passed form step + turns_passed form steps) (t + turns_passed form (step ∷ steps)) (omega arith) short) in
    reads_one (script_at form places.Events d n t) (step_line step) (step_item step) (script_at form places.Events d m u) (map step_line steps) (map step_item steps) _ first
    (others
    ∙ ap (λ (k : ℕ). Ok (map step_item steps, script_at form places.Events d k (t + passed form step + turns_passed form steps))) (omega arith)
    ∙ ap (λ (k : ℕ). Ok (map step_item steps, script_at form places.Events d (n + (counted form step + lines_counted form steps)) k)) (omega arith))

-- ---- the whole text

end_read : (form : ScriptForm) (d : Deployment) (n t : ℕ) → script_reading (script_at form places.Events d n t) Whole (codes "end") ≡ Ok (items.End, script_at form places.Ended d n t)
unfolding script_body_at script_end_at
end_read form d n t = refl

-- the lines of a script are read as its setup and its steps
pub script_read : (form : ScriptForm) (d : Deployment) (steps : List ScriptStep) → IsScript form d steps
    → script_reads (script_start form) (script_lines d steps) ≡ Ok (script_items d steps, script_at_end form d steps)
script_read form d steps h =
    let n = lines_counted form steps in
    let t = turns_passed form steps in
    let last : script_reads (script_at form places.Events d n t) (codes "end" ∷ []) ≡ Ok (items.End ∷ [], script_at_end form d steps) =
    reads_one (script_at form places.Events d n t) (codes "end") items.End (script_at_end form d steps) [] [] _ (end_read form d n t) refl in
    let zero_more : (k : ℕ) → 0 + k ≡ k = λ k. omega arith in
    let body : script_reads (script_at form places.Events d 0 0) (map step_line steps) ≡ Ok (map step_item steps, script_at form places.Events d n t) =
    steps_read steps form d 0 0 (small_setup d h.setup) h.each (omega (arith, h.few)) (may_pass_less form (0 + t) t (omega arith) h.short)
    ∙ ap (λ (k : ℕ). Ok (map step_item steps, script_at form places.Events d k (0 + t))) (zero_more n)
    ∙ ap (λ (k : ℕ). Ok (map step_item steps, script_at form places.Events d n k)) (zero_more t) in
    let ends = reads_append (map step_line steps) (codes "end" ∷ []) (script_at form places.Events d 0 0) (script_at form places.Events d n t) (map step_item steps) (items.End ∷ []) (script_at_end form d steps) body last in
    reads_append (setup_lines d) (map step_line steps ++ codes "end" ∷ []) (script_start form) (script_at form places.Events d 0 0) (script_header_items d ++ items.Begun d ∷ []) (map step_item steps ++ items.End ∷ []) (script_at_end form d steps)
    (setup_read form d steps h) ends
    ∙ ap (λ (is : List ScriptItem). Ok (is, script_at_end form d steps)) (append_assoc (script_header_items d) (items.Begun d ∷ []) (map step_item steps ++ items.End ∷ []))

-- ---- one spelling

first_item : (i j : ScriptItem) (is js : List ScriptItem) → i ∷ is ≡ j ∷ js → (i ≡ j) × (is ≡ js)
first_item i j is js h = (cc, cc)

no_step_ends : (s : ScriptStep) → items.End ≡ step_item s → ⊥
no_step_ends (Happens e) h = absurd cc
no_step_ends (Settles turns) h = absurd cc

step_is : (s u : ScriptStep) → step_item s ≡ step_item u → s ≡ u
step_is (Happens e) (Happens f) h = let same : e ≡ f = cc in ap Happens same
step_is (Happens e) (Settles turns) h = absurd cc
step_is (Settles turns) (Happens e) h = absurd cc
step_is (Settles m) (Settles n) h = let same : m ≡ n = cc in ap Settles same

same_steps : (ss us : List ScriptStep) → map step_item ss ++ items.End ∷ [] ≡ map step_item us ++ items.End ∷ [] → ss ≡ us
same_steps [] [] h = refl
same_steps [] (u ∷ us) h = absurd (no_step_ends u (first_item _ _ _ _ h).0)
same_steps (s ∷ ss) [] h = absurd (no_step_ends s (sym (first_item _ _ _ _ h).0))
same_steps (s ∷ ss) (u ∷ us) h =
    let parts = first_item (step_item s) (step_item u) (map step_item ss ++ items.End ∷ []) (map step_item us ++ items.End ∷ []) h in
    let head = step_is s u parts.0 in
    let tail = same_steps ss us parts.1 in
    cc

same_after : (front is js : List ScriptItem) → front ++ is ≡ front ++ js → is ≡ js
same_after [] is js h = h
same_after (i ∷ front) is js h = same_after front is js (first_item i i (front ++ is) (front ++ js) h).1

pub one_script : (form : ScriptForm) (d e : Deployment) (ss us : List ScriptStep) → IsScript form d ss → IsScript form e us → script_lines d ss ≡ script_lines e us → (d ≡ e) × (ss ≡ us)
one_script form d e ss us h k same =
    let read : ◌≡◌ {A = List ScriptItem × ScriptProgress} (script_items d ss, script_at_end form d ss) (script_items e us, script_at_end form e us) =
    ok_is (script_items d ss, script_at_end form d ss) (script_items e us, script_at_end form e us) (sym (script_read form d ss h) ∙ ap (script_reads (script_start form)) same ∙ script_read form e us k) in
    let setup : d ≡ e = ap (λ (x : List ScriptItem × ScriptProgress). x.1.head.setup) read in
    let of_one : script_items d ss ≡ script_items d us = ap (λ (x : List ScriptItem × ScriptProgress). x.0) read ∙ ap (λ (f : Deployment). script_items f us) (sym setup) in
    let rest = same_after (script_header_items d) (items.Begun d ∷ (map step_item ss ++ items.End ∷ [])) (items.Begun d ∷ (map step_item us ++ items.End ∷ [])) of_one in
    (setup, same_steps ss us (first_item (items.Begun d) (items.Begun d) (map step_item ss ++ items.End ∷ []) (map step_item us ++ items.End ∷ []) rest).1)
