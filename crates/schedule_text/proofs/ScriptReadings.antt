-- Lines that are read, one after the other, are the lines of a script.
use Rattle.std.proofs.Common.{◌≡◌, ℕ, ◌+◌, ◌^◌, ◌<◌, ◌≤◌, Bool, true, false, not, cond, List, [], ◌∷◌, ◌++◌, length, map, Option, Some, None, Ok, Err, refl, sym, ◌∙◌, ap, subst, append_assoc, arith, codes, decimal}
use Rattle.std.specs.Prelude.{nat_le, nat_lt, ◌==◌, ◌&&◌}
use Rattle.std.proofs.lemmas.Bool.Decides.{nat_tests}
use Rattle.std.proofs.lemmas.List.{append-nil}
use Rattle.tcs_terms.specs.declared.inputs.Event.{Event}
use Rattle.tcs_terms.specs.declared.inputs.Event.TheVariants as events
use Rattle.tcs_terms.specs.declared.limits.TheConstants.{MAX_SHARDS}
use Rattle.text_words.specs.declared.words.Reason.TheVariants as reasons
use Rattle.tcs_terms.specs.Setups.{Deployment, IsDeployment}
use Rattle.text_words.specs.Words.{words_of, begins, after}
use Rattle.schedule_text.specs.declared.limits.TheConstants.{SCRIPT_LINES, MOST_TURNS, MOST_NODE_TURNS}
use Rattle.schedule_text.specs.declared.lines.Got.TheVariants.{Whole}
use Rattle.schedule_text.specs.declared.places.Place.{Place}
use Rattle.schedule_text.specs.declared.places.Place.TheVariants as places
use Rattle.schedule_text.specs.declared.script.ScriptForm.{ScriptForm}
use Rattle.schedule_text.specs.declared.script.ScriptForm.TheVariants as forms
use Rattle.schedule_text.specs.declared.script.ScriptItem.{ScriptItem}
use Rattle.schedule_text.specs.declared.script.ScriptItem.TheVariants as items
use Rattle.schedule_text.specs.declared.verbs.Verb.{Verb}
use Rattle.schedule_text.specs.declared.verbs.Verb.TheVariants as verbs
use Rattle.schedule_text.specs.Text.{setup_lines, event_line}
use Rattle.schedule_text.specs.Words.{fixed_at, end_at, number_at, between_at}
use Rattle.schedule_text.specs.Header.{Head, rule_at, next_at, first_config_at, begun_at, has_place_for, version_at, certifier_at, shards_at, node_at, config_at, events_at, part_at, head_at}
use Rattle.schedule_text.specs.Events.{verb_of, event_at}
use Rattle.schedule_text.specs.Schedules.{first_verb}
use Rattle.schedule_text.specs.Scripts.{ScriptProgress, script_start, only_of, script_head_item, script_header_at, script_end_at, turns_at, cluster_settle_at, node_settle_at, counted_settle_at, settle_at, script_event_at, script_verb_at, script_body_at, script_reading}
use Rattle.schedule_text.specs.ScriptText.ScriptStep.{Happens, Settles}
use Rattle.schedule_text.specs.ScriptText.{ScriptStep, settle_line, step_line, script_lines, is_delivery, StepStands, counted, lines_counted, passed, turns_passed, MayPass, IsScript, script_reads, step_item, script_header_items, script_items, IsScriptRead}
use Rattle.schedule_text.proofs.BytesRead.{all_end}
use Rattle.schedule_text.proofs.EventReadings.{verb_word, verb_named, names_verb, some_is, event_takes}
use Rattle.schedule_text.proofs.EventSpellings.{spellable}
use Rattle.schedule_text.proofs.HeaderReadings.{head_lines, HeadStands, HeadItem, in_header, head_takes, map_end}
use Rattle.schedule_text.proofs.LineWords.{words_of_event, event_words}
use Rattle.schedule_text.proofs.NumberReadings.{begun, end_takes, number_read, between_takes}
use Rattle.schedule_text.proofs.ScheduleReadings.{small_setup}
use Rattle.schedule_text.proofs.ScriptSpellings.{script_at, script_headed, settle_words}
use Rattle.schedule_text.proofs.Spaces.{same_words}
use Rattle.text_words.proofs.Steps.{bind_ok, chosen, met, ok_is}

-- ---- the last line of the header

-- where it is taken, the setup has a place for the node for which the script is
abbrev HasPlace : Option ℕ → Option Deployment → Deployment → Type 0
HasPlace only None d = Unit {0}
HasPlace only (Some whole) d = has_place_for only d ≡ true

abbrev Placed : Option ℕ → Deployment → Option Deployment × Head → Type 0
Placed only d x = HasPlace only x.0 d

part_placed : (only : Option ℕ) (d : Deployment) (words : List (List ℕ)) (x : Option Deployment × Head) → part_at only d words ≡ Ok x → Placed only d x
unfolding part_at node_at config_at events_at
part_placed only d words x h = node_or ((length d.configs == 0) && begins (codes "node") words) h where
  config_or : (b : Bool) → cond b (config_at d (after words)) (events_at only d words) ≡ Ok x → Placed only d x
  config_or true k =
      let a = bind_ok (first_config_at d (after words)) _ x k in
      subst (Placed only d) (ok_is _ x a.2) tt
  config_or false k =
      let a = bind_ok (begun_at d words) _ x k in
      let e = bind_ok (end_at a.0.1) _ x a.2 in
      let m = met (has_place_for only d) reasons.Range _ x e.2 in
      subst (Placed only d) m.1 m.0

  node_or : (b : Bool) → cond b (node_at d (after words)) (cond ((not (length d.nodes == 0) && nat_lt (length d.configs) d.shards) && begins (codes "config") words) (config_at d (after words)) (events_at only d words)) ≡ Ok x → Placed only d x
  node_or true k =
      let a = bind_ok (next_at (length d.nodes) (after words)) _ x k in
      let b = bind_ok (between_at 1 d.shards a.0.1) _ x a.2 in
      let e = bind_ok (end_at b.0.1) _ x b.2 in
      subst (Placed only d) (ok_is _ x e.2) tt
  node_or false k = config_or ((not (length d.nodes == 0) && nat_lt (length d.configs) d.shards) && begins (codes "config") words) k

head_placed : (only : Option ℕ) (place : Place) (d : Deployment) (words : List (List ℕ)) (x : Option Deployment × Head) → head_at only place d words ≡ Ok x → Placed only d x
unfolding version_at certifier_at shards_at
head_placed only places.Version d words x h =
    let a = bind_ok (fixed_at (codes "tcs") words) _ x h in
    let b = bind_ok (between_at 1 2 a.0.1) _ x a.2 in
    let e = bind_ok (end_at b.0.1) _ x b.2 in
    subst (Placed only d) (ok_is _ x e.2) tt
head_placed only places.Certifier d words x h =
    let a = bind_ok (fixed_at (codes "certifier") words) _ x h in
    let b = bind_ok (rule_at a.0.1) _ x a.2 in
    let e = bind_ok (end_at b.0.1) _ x b.2 in
    subst (Placed only d) (ok_is _ x e.2) tt
head_placed only places.Shards d words x h =
    let a = bind_ok (fixed_at (codes "shards") words) _ x h in
    let b = bind_ok (between_at 1 MAX_SHARDS a.0.1) _ x a.2 in
    let e = bind_ok (end_at b.0.1) _ x b.2 in
    subst (Placed only d) (ok_is _ x e.2) tt
head_placed only places.Parts d words x h = part_placed only d words x h
head_placed only places.Events d words x h = absurd cc
head_placed only places.Ended d words x h = absurd cc

-- ---- where a reader stands

-- these lines are those of the header so far
record InHeader (place : Place) (d : Deployment) (n t : ℕ) (lines : List (List ℕ)) (is : List ScriptItem) : Type 0 where
  stands : HeadStands place d
  uncounted : n ≡ 0
  unpassed : t ≡ 0
  lines_are : lines ≡ head_lines place d
  items_are : is ≡ script_headed (head_lines place d)

-- these lines are the header, and some steps
record InBody (form : ScriptForm) (d : Deployment) (n t : ℕ) (lines : List (List ℕ)) (is : List ScriptItem) : Type 0 where
  steps : List ScriptStep
  script : IsScript form d steps
  counts : n ≡ lines_counted form steps
  passes : t ≡ turns_passed form steps
  lines_are : lines ≡ setup_lines d ++ map step_line steps
  items_are : is ≡ script_header_items d ++ (items.Begun d ∷ map step_item steps)

-- these lines are a whole script
record AtEnd (form : ScriptForm) (d : Deployment) (n t : ℕ) (lines : List (List ℕ)) (is : List ScriptItem) : Type 0 where
  steps : List ScriptStep
  script : IsScript form d steps
  counts : n ≡ lines_counted form steps
  passes : t ≡ turns_passed form steps
  lines_are : lines ≡ script_lines d steps
  items_are : is ≡ script_items d steps

abbrev Known : ScriptForm → Place → Deployment → ℕ → ℕ → List (List ℕ) → List ScriptItem → Type 0
Known form places.Version d n t lines is = InHeader places.Version d n t lines is
Known form places.Certifier d n t lines is = InHeader places.Certifier d n t lines is
Known form places.Shards d n t lines is = InHeader places.Shards d n t lines is
Known form places.Parts d n t lines is = InHeader places.Parts d n t lines is
Known form places.Events d n t lines is = InBody form d n t lines is
Known form places.Ended d n t lines is = AtEnd form d n t lines is

-- what is known of a reader that has read these lines
record Holds (form : ScriptForm) (lines : List (List ℕ)) (is : List ScriptItem) (p : ScriptProgress) : Type 0 where
  same : p.form ≡ form
  known : Known form p.head.place p.head.setup p.lines p.turns lines is

-- the same with one line more
abbrev Goes : ScriptForm → List (List ℕ) → List ScriptItem → List ℕ → ScriptItem × ScriptProgress → Type 0
Goes form lines is line x = Holds form (lines ++ line ∷ []) (is ++ x.0 ∷ []) x.1

-- ---- lines of the header

header_known : (form : ScriptForm) (place : Place) (d : Deployment) (n t : ℕ) (lines : List (List ℕ)) (is : List ScriptItem) → in_header place ≡ true → InHeader place d n t lines is → Known form place d n t lines is
header_known form places.Version d n t lines is here k = k
header_known form places.Certifier d n t lines is here k = k
header_known form places.Shards d n t lines is here k = k
header_known form places.Parts d n t lines is here k = k
header_known form places.Events d n t lines is here k = absurd cc
header_known form places.Ended d n t lines is here k = absurd cc

none_pass : (form : ScriptForm) → MayPass form 0
none_pass (forms.Cluster most) = omega arith
none_pass (forms.Node id) = tt

begun_known : (form : ScriptForm) (d : Deployment) (n t : ℕ) (lines : List (List ℕ)) (is : List ScriptItem) (line : List ℕ) → IsDeployment d → has_place_for (only_of form) d ≡ true
    → InHeader places.Parts d n t lines is → setup_lines d ≡ head_lines places.Parts d ++ line ∷ [] → InBody form d n t (lines ++ line ∷ []) (is ++ items.Begun d ∷ [])
begun_known form d n t lines is line whole has k same = record {
  steps = [];
  script = record { setup = whole; place = has; each = tt; few = omega arith; short = none_pass form };
  counts = k.uncounted;
  passes = k.unpassed;
  lines_are = ap (λ (ls : List (List ℕ)). ls ++ line ∷ []) k.lines_are ∙ sym same ∙ sym (append-nil (setup_lines d));
  items_are = ap (λ (js : List ScriptItem). js ++ items.Begun d ∷ []) k.items_are;
}

some_known : (form : ScriptForm) (place to : Place) (before whole d : Deployment) (n t : ℕ) (lines : List (List ℕ)) (is : List ScriptItem) (line : List ℕ) → place ≡ places.Parts → to ≡ places.Events → d ≡ whole → before ≡ whole
    → HeadStands to whole → has_place_for (only_of form) before ≡ true → InHeader place before n t lines is → head_lines to whole ≡ head_lines place before ++ line ∷ []
    → Known form to whole n t (lines ++ line ∷ []) (is ++ items.Begun d ∷ [])
some_known form place to before whole d n t lines is line p q r s stands has k same =
    let whole_is : IsDeployment whole = subst (λ (pl : Place). HeadStands pl whole) q stands in
    let placed : has_place_for (only_of form) whole ≡ true = subst (λ (e : Deployment). has_place_for (only_of form) e ≡ true) s has in
    let header : InHeader places.Parts whole n t lines is =
    subst (λ (e : Deployment). InHeader places.Parts e n t lines is) s (subst (λ (pl : Place). InHeader pl before n t lines is) p k) in
    let lines_are : setup_lines whole ≡ head_lines places.Parts whole ++ line ∷ [] =
    subst (λ (e : Deployment). setup_lines whole ≡ head_lines places.Parts e ++ line ∷ []) s
    (subst (λ (pl : Place). setup_lines whole ≡ head_lines pl before ++ line ∷ []) p (subst (λ (pl : Place). head_lines pl whole ≡ head_lines place before ++ line ∷ []) q same)) in
    subst (λ (pl : Place). Known form pl whole n t (lines ++ line ∷ []) (is ++ items.Begun d ∷ [])) (sym q)
    (subst (λ (e : Deployment). InBody form whole n t (lines ++ line ∷ []) (is ++ items.Begun e ∷ [])) (sym r) (begun_known form whole n t lines is line whole_is placed header lines_are))

item_known : (form : ScriptForm) (place to : Place) (before whole : Deployment) (item : Option Deployment) (n t : ℕ) (lines : List (List ℕ)) (is : List ScriptItem) (line : List ℕ)
    → HeadItem item place to before whole → HasPlace (only_of form) item before → HeadStands to whole → InHeader place before n t lines is → head_lines to whole ≡ head_lines place before ++ line ∷ []
    → Known form to whole n t (lines ++ line ∷ []) (is ++ script_head_item item ∷ [])
item_known form place to before whole None n t lines is line into has stands k same = header_known form to whole n t (lines ++ line ∷ []) (is ++ items.Header ∷ []) into (record {
  stands = stands;
  uncounted = k.uncounted;
  unpassed = k.unpassed;
  lines_are = ap (λ (ls : List (List ℕ)). ls ++ line ∷ []) k.lines_are ∙ sym same;
  items_are = ap (λ (js : List ScriptItem). js ++ items.Header ∷ []) k.items_are ∙ sym (map_end (λ (l : List ℕ). items.Header) (head_lines place before) line) ∙ ap script_headed (sym same);
})
item_known form place to before whole (Some d) n t lines is line h has stands k same = some_known form place to before whole d n t lines is line h.0 h.1 h.2 h.3 stands has k same

header_goes : (form : ScriptForm) (place : Place) (d : Deployment) (n t : ℕ) (lines : List (List ℕ)) (is : List ScriptItem) (line : List ℕ) (x : ScriptItem × ScriptProgress) → InHeader place d n t lines is
    → script_header_at (script_at form place d n t) (words_of line) ≡ Ok x → Goes form lines is line x
unfolding script_header_at
header_goes form place d n t lines is line x k h =
    let a = bind_ok (head_at (only_of form) place d (words_of line)) _ x h in
    let s = head_takes (only_of form) place d line a.0 k.stands a.1 in
    subst (Goes form lines is line) (ok_is (script_head_item a.0.0, record { form = form; head = a.0.1; lines = n; turns = t }) x a.2) (record {
      same = refl;
      known = item_known form place a.0.1.place d a.0.1.setup a.0.0 n t lines is line s.item (head_placed (only_of form) place d (words_of line) a.0 a.1) s.stands k s.lines;
    })

-- ---- steps

counted_more : (form : ScriptForm) (steps : List ScriptStep) (step : ScriptStep) → lines_counted form (steps ++ step ∷ []) ≡ lines_counted form steps + counted form step
counted_more form [] step = omega arith
counted_more form (s ∷ ss) step = omega (arith, counted_more form ss step)

passed_more : (form : ScriptForm) (steps : List ScriptStep) (step : ScriptStep) → turns_passed form (steps ++ step ∷ []) ≡ turns_passed form steps + passed form step
passed_more form [] step = omega arith
passed_more form (s ∷ ss) step = omega (arith, passed_more form ss step)

step_added : (form : ScriptForm) (d : Deployment) (n t m u : ℕ) (lines : List (List ℕ)) (is : List ScriptItem) (line : List ℕ) (step : ScriptStep) → InBody form d n t lines is → StepStands form d step
    → line ≡ step_line step → m ≡ n + counted form step → u ≡ t + passed form step → m ≤ SCRIPT_LINES → MayPass form u
    → Goes form lines is line (step_item step, script_at form places.Events d m u)
step_added form d n t m u lines is line step k stands same counts passes few short =
    let ss = k.steps in
    let many : m ≡ lines_counted form (k.steps ++ step ∷ []) = omega (arith, k.counts, counts, counted_more form k.steps step) in
    let pass : u ≡ turns_passed form (k.steps ++ step ∷ []) = omega (arith, k.passes, passes, passed_more form k.steps step) in
    record {
      same = refl;
      known = record {
        steps = ss ++ step ∷ [];
        script = record {
          setup = k.script.setup;
          place = k.script.place;
          each = all_end (StepStands form d) ss step k.script.each stands;
          few = omega (arith, many, few);
          short = subst (MayPass form) pass short;
        };
        counts = many;
        passes = pass;
        lines_are = ap (λ (ls : List (List ℕ)). ls ++ line ∷ []) k.lines_are ∙ append_assoc (setup_lines d) (map step_line ss) (line ∷ [])
            ∙ ap (λ (l : List ℕ). setup_lines d ++ (map step_line ss ++ l ∷ [])) same ∙ ap (λ (ls : List (List ℕ)). setup_lines d ++ ls) (sym (map_end step_line ss step));
        items_are = ap (λ (js : List ScriptItem). js ++ step_item step ∷ []) k.items_are ∙ append_assoc (script_header_items d) (items.Begun d ∷ map step_item ss) (step_item step ∷ [])
            ∙ ap (λ (js : List ScriptItem). script_header_items d ++ (items.Begun d ∷ js)) (sym (map_end step_item ss step));
      };
    }

-- ---- turns that pass

settles : (line : List ℕ) (k : ℕ) (rest : List (List ℕ)) → begins (codes "settle") (words_of line) ≡ true → after (words_of line) ≡ decimal k ∷ rest → rest ≡ [] → k < 2 ^ 64 → line ≡ settle_line k
settles line k rest first words none small =
    same_words line (settle_line k)
    (begun (codes "settle") (words_of line) first ∙ ap (λ (ws : List (List ℕ)). codes "settle" ∷ ws) (words ∙ ap (λ (ws : List (List ℕ)). decimal k ∷ ws) none) ∙ sym (settle_words k small))

-- turns of a cluster that pass both tests
record Turns (most so_far : ℕ) (words : List (List ℕ)) (x : ℕ × List (List ℕ)) : Type 0 where
  word : words ≡ decimal x.0 ∷ x.1
  small : x.0 < 2 ^ 64
  within : so_far + x.0 ≤ most
  fits : (1 ≤ x.0) × (x.0 ≤ MOST_TURNS)

turns_pass : (most so_far : ℕ) (words : List (List ℕ)) (n x : ℕ × List (List ℕ)) (b : Bool) → nat_lt most (so_far + n.0) ≡ b → words ≡ decimal n.0 ∷ n.1 → n.0 < 2 ^ 64
    → cond b (Err reasons.Many) (cond (nat_le 1 n.0 && nat_le n.0 MOST_TURNS) (Ok n) (Err reasons.Range)) ≡ Ok x → Turns most so_far words x
turns_pass most so_far words n x true e word small k = absurd cc
turns_pass most so_far words n x false e word small k =
    let m = met (nat_le 1 n.0 && nat_le n.0 MOST_TURNS) reasons.Range n x k in
    let fits = m.0 in
    let within : so_far + n.0 ≤ most = grind (arith, nat_tests) in
    let low : 1 ≤ n.0 = grind (arith, nat_tests) in
    let high : n.0 ≤ MOST_TURNS = grind (arith, nat_tests) in
    subst (Turns most so_far words) m.1 (record { word = word; small = small; within = within; fits = (low, high) })

turns_take : (most so_far : ℕ) (words : List (List ℕ)) (x : ℕ × List (List ℕ)) → turns_at most so_far words ≡ Ok x → Turns most so_far words x
unfolding turns_at
turns_take most so_far words x h =
    let a = bind_ok (number_at words) _ x h in
    let t = number_read words a.0 a.1 in
    turns_pass most so_far words a.0 x (nat_lt most (so_far + a.0.0)) refl t.0 t.1 a.2

few_so_far : (form : ScriptForm) (d : Deployment) (n t : ℕ) (lines : List (List ℕ)) (is : List ScriptItem) → InBody form d n t lines is → n ≤ SCRIPT_LINES
few_so_far form d n t lines is k = omega (arith, k.counts, k.script.few)

pass_so_far : (form : ScriptForm) (d : Deployment) (n t : ℕ) (lines : List (List ℕ)) (is : List ScriptItem) → InBody form d n t lines is → MayPass form t
pass_so_far form d n t lines is k = subst (MayPass form) (sym k.passes) k.script.short

cluster_goes : (most : ℕ) (d : Deployment) (n t : ℕ) (lines : List (List ℕ)) (is : List ScriptItem) (line : List ℕ) (x : ScriptItem × ScriptProgress) → InBody (forms.Cluster most) d n t lines is
    → begins (codes "settle") (words_of line) ≡ true → cluster_settle_at (script_at (forms.Cluster most) places.Events d n t) most (after (words_of line)) ≡ Ok x → Goes (forms.Cluster most) lines is line x
unfolding cluster_settle_at
cluster_goes most d n t lines is line x k first h =
    let a = bind_ok (turns_at most t (after (words_of line))) _ x h in
    let e = bind_ok (end_at a.0.1) _ x a.2 in
    let r = turns_take most t (after (words_of line)) a.0 a.1 in
    let same = settles line a.0.0 a.0.1 first r.word (end_takes a.0.1 e.0 e.1) r.small in
    subst (Goes (forms.Cluster most) lines is line) (ok_is (items.Settle a.0.0, script_at (forms.Cluster most) places.Events d n (t + a.0.0)) x e.2)
    (step_added (forms.Cluster most) d n t n (t + a.0.0) lines is line (Settles a.0.0) k r.fits same (omega arith) refl (few_so_far (forms.Cluster most) d n t lines is k) r.within)

node_goes : (id : ℕ) (d : Deployment) (n t : ℕ) (lines : List (List ℕ)) (is : List ScriptItem) (line : List ℕ) (x : ScriptItem × ScriptProgress) → InBody (forms.Node id) d n t lines is
    → begins (codes "settle") (words_of line) ≡ true → counted_settle_at (script_at (forms.Node id) places.Events d n t) (after (words_of line)) ≡ Ok x → Goes (forms.Node id) lines is line x
unfolding counted_settle_at node_settle_at
node_goes id d n t lines is line x k first h =
    let c = chosen (nat_lt n SCRIPT_LINES) reasons.Many _ x h in
    let a = bind_ok (between_at 1 MOST_NODE_TURNS (after (words_of line))) _ x c.1 in
    let e = bind_ok (end_at a.0.1) _ x a.2 in
    let r = between_takes 1 MOST_NODE_TURNS (after (words_of line)) a.0 a.1 in
    let same = settles line a.0.0 a.0.1 first r.word (end_takes a.0.1 e.0 e.1) r.small in
    let below = c.0 in
    let room : n + 1 ≤ SCRIPT_LINES = grind (arith, nat_tests) in
    let fits = r.passes in
    let low : 1 ≤ a.0.0 = grind (arith, nat_tests) in
    let high : a.0.0 ≤ MOST_NODE_TURNS = grind (arith, nat_tests) in
    subst (Goes (forms.Node id) lines is line) (ok_is (items.Settle a.0.0, script_at (forms.Node id) places.Events d (n + 1) t) x e.2)
    (step_added (forms.Node id) d n t (n + 1) t lines is line (Settles a.0.0) k (low, high) same refl (omega arith) room tt)

settle_goes : (form : ScriptForm) (d : Deployment) (n t : ℕ) (lines : List (List ℕ)) (is : List ScriptItem) (line : List ℕ) (x : ScriptItem × ScriptProgress) → InBody form d n t lines is
    → begins (codes "settle") (words_of line) ≡ true → settle_at (script_at form places.Events d n t) form (after (words_of line)) ≡ Ok x → Goes form lines is line x
settle_goes (forms.Cluster most) d n t lines is line x k first h = cluster_goes most d n t lines is line x k first h
settle_goes (forms.Node id) d n t lines is line x k first h = node_goes id d n t lines is line x k first h

-- ---- events

-- what is read by a verb that is no delivery is none
no_delivery : (e : Event) (v : Verb) (words : List (List ℕ)) → verb_word v ∷ words ≡ event_words e → first_verb (verb_word v ∷ words) ≡ Some v → (v ≡ verbs.Deliver → ⊥) → is_delivery e ≡ false
no_delivery (events.Call node input) v words same verb other = refl
no_delivery (events.DeliverNumber number) v words same verb other =
    let is : Some v ≡ Some verbs.Deliver = sym verb ∙ ap first_verb same in
    absurd (other (some_is v verbs.Deliver is))
no_delivery (events.Stop node) v words same verb other = refl

event_goes : (form : ScriptForm) (d : Deployment) (n t : ℕ) (lines : List (List ℕ)) (is : List ScriptItem) (line : List ℕ) (v : Verb) (words : List (List ℕ)) (x : ScriptItem × ScriptProgress) → InBody form d n t lines is
    → (v ≡ verbs.Deliver → ⊥) → words_of line ≡ verb_word v ∷ words → script_event_at (script_at form places.Events d n t) v words ≡ Ok x → Goes form lines is line x
unfolding script_event_at
event_goes form d n t lines is line v words x k other first h =
    let c = chosen (nat_lt n SCRIPT_LINES) reasons.Many _ x h in
    let a = bind_ok (event_at (only_of form) d v words) _ x c.1 in
    let setup = k.script.setup in
    let e = event_takes (only_of form) d v words a.0 setup.version a.1 in
    let same : line ≡ event_line a.0 =
    same_words line (event_line a.0) (first ∙ e.spelled ∙ sym (words_of_event a.0 (spellable d a.0 (small_setup d setup) e.is e.fits))) in
    let below = c.0 in
    let room : n + 1 ≤ SCRIPT_LINES = grind (arith, nat_tests) in
    let none = no_delivery a.0 v words e.spelled (names_verb v) other in
    subst (Goes form lines is line) (ok_is (items.Event a.0, script_at form places.Events d (n + 1) t) x a.2)
    (step_added form d n t (n + 1) t lines is line (Happens a.0) k (record { event = e.is; fits = e.fits }, none, e.own) same refl (omega arith) room (pass_so_far form d n t lines is k))

verb_goes : (form : ScriptForm) (d : Deployment) (n t : ℕ) (lines : List (List ℕ)) (is : List ScriptItem) (line : List ℕ) (v : Verb) (words : List (List ℕ)) (x : ScriptItem × ScriptProgress) → InBody form d n t lines is
    → words_of line ≡ verb_word v ∷ words → script_verb_at (script_at form places.Events d n t) (Some v) words ≡ Ok x → Goes form lines is line x
verb_goes form d n t lines is line (verbs.Call call) words x k first h = event_goes form d n t lines is line (verbs.Call call) words x k (λ e. absurd cc) first h
verb_goes form d n t lines is line verbs.Deliver words x k first h = absurd cc
verb_goes form d n t lines is line verbs.Stop words x k first h = event_goes form d n t lines is line verbs.Stop words x k (λ e. absurd cc) first h

words_go : (form : ScriptForm) (d : Deployment) (n t : ℕ) (lines : List (List ℕ)) (is : List ScriptItem) (line : List ℕ) (words : List (List ℕ)) (x : ScriptItem × ScriptProgress) → InBody form d n t lines is
    → words_of line ≡ words → script_verb_at (script_at form places.Events d n t) (first_verb words) (after words) ≡ Ok x → Goes form lines is line x
words_go form d n t lines is line [] x k same h = absurd cc
words_go form d n t lines is line (w ∷ ws) x k same h = go (verb_of w) refl h where
  go : (o : Option Verb) → verb_of w ≡ o → script_verb_at (script_at form places.Events d n t) o ws ≡ Ok x → Goes form lines is line x
  go (Some v) e j = verb_goes form d n t lines is line v ws x k (same ∙ ap (λ (u : List ℕ). u ∷ ws) (verb_named w v e)) j
  go None e j = absurd cc

-- ---- the end

end_goes : (form : ScriptForm) (d : Deployment) (n t : ℕ) (lines : List (List ℕ)) (is : List ScriptItem) (line : List ℕ) (x : ScriptItem × ScriptProgress) → InBody form d n t lines is
    → begins (codes "end") (words_of line) ≡ true → script_end_at (script_at form places.Events d n t) (words_of line) ≡ Ok x → Goes form lines is line x
unfolding script_end_at
end_goes form d n t lines is line x k first h =
    let a = bind_ok (end_at (after (words_of line))) _ x h in
    let words : words_of line ≡ codes "end" ∷ [] = begun (codes "end") (words_of line) first ∙ ap (λ (ws : List (List ℕ)). codes "end" ∷ ws) (end_takes (after (words_of line)) a.0 a.1) in
    let same : line ≡ codes "end" = same_words line (codes "end") words in
    let ss = k.steps in
    subst (Goes form lines is line) (ok_is (items.End, script_at form places.Ended d n t) x a.2) (record {
      same = refl;
      known = record {
        steps = ss;
        script = k.script;
        counts = k.counts;
        passes = k.passes;
        lines_are = ap (λ (ls : List (List ℕ)). ls ++ line ∷ []) k.lines_are ∙ append_assoc (setup_lines d) (map step_line ss) (line ∷ [])
            ∙ ap (λ (l : List ℕ). setup_lines d ++ (map step_line ss ++ l ∷ [])) same;
        items_are = ap (λ (js : List ScriptItem). js ++ items.End ∷ []) k.items_are ∙ append_assoc (script_header_items d) (items.Begun d ∷ map step_item ss) (items.End ∷ []);
      };
    })

-- ---- any line

body_goes : (form : ScriptForm) (d : Deployment) (n t : ℕ) (lines : List (List ℕ)) (is : List ScriptItem) (line : List ℕ) (x : ScriptItem × ScriptProgress) → InBody form d n t lines is
    → script_body_at (script_at form places.Events d n t) (words_of line) ≡ Ok x → Goes form lines is line x
unfolding script_body_at
body_goes form d n t lines is line x k h = go (begins (codes "end") (words_of line)) (begins (codes "settle") (words_of line)) refl refl h where
  go : (a b : Bool) → begins (codes "end") (words_of line) ≡ a → begins (codes "settle") (words_of line) ≡ b
      → cond a (script_end_at (script_at form places.Events d n t) (words_of line))
      (cond b (settle_at (script_at form places.Events d n t) form (after (words_of line))) (script_verb_at (script_at form places.Events d n t) (first_verb (words_of line)) (after (words_of line)))) ≡ Ok x
      → Goes form lines is line x
  go true b e f j = end_goes form d n t lines is line x k e j
  go false true e f j = settle_goes form d n t lines is line x k f j
  go false false e f j = words_go form d n t lines is line (words_of line) x k refl j

goes : (form : ScriptForm) (place : Place) (d : Deployment) (n t : ℕ) (lines : List (List ℕ)) (is : List ScriptItem) (line : List ℕ) (x : ScriptItem × ScriptProgress) → Known form place d n t lines is
    → script_reading (script_at form place d n t) Whole line ≡ Ok x → Goes form lines is line x
goes form places.Version d n t lines is line x k h = header_goes form places.Version d n t lines is line x k h
goes form places.Certifier d n t lines is line x k h = header_goes form places.Certifier d n t lines is line x k h
goes form places.Shards d n t lines is line x k h = header_goes form places.Shards d n t lines is line x k h
goes form places.Parts d n t lines is line x k h = header_goes form places.Parts d n t lines is line x k h
goes form places.Events d n t lines is line x k h = body_goes form d n t lines is line x k h
goes form places.Ended d n t lines is line x k h = absurd cc

one_goes : (form : ScriptForm) (p : ScriptProgress) (lines : List (List ℕ)) (is : List ScriptItem) (line : List ℕ) (x : ScriptItem × ScriptProgress) → Holds form lines is p
    → script_reading p Whole line ≡ Ok x → Goes form lines is line x
one_goes form p lines is line x k h =
    let at : p ≡ script_at form p.head.place p.head.setup p.lines p.turns = ap (λ (f : ScriptForm). script_at f p.head.place p.head.setup p.lines p.turns) k.same in
    goes form p.head.place p.head.setup p.lines p.turns lines is line x k.known
    (ap (λ (q : ScriptProgress). script_reading q Whole line) (sym at) ∙ h)

-- ---- all lines

reads_take : (more : List (List ℕ)) (form : ScriptForm) (p : ScriptProgress) (lines : List (List ℕ)) (is : List ScriptItem) (x : List ScriptItem × ScriptProgress) → Holds form lines is p
    → script_reads p more ≡ Ok x → Holds form (lines ++ more) (is ++ x.0) x.1
reads_take [] form p lines is x k h =
    subst (λ (y : List ScriptItem × ScriptProgress). Holds form (lines ++ []) (is ++ y.0) y.1) (ok_is ([], p) x h)
    (subst (λ (ls : List (List ℕ)). Holds form ls (is ++ []) p) (sym (append-nil lines)) (subst (λ (js : List ScriptItem). Holds form lines js p) (sym (append-nil is)) k))
reads_take (line ∷ more) form p lines is x k h =
    let a = bind_ok (script_reading p Whole line) _ x h in
    let b = bind_ok (script_reads a.0.1 more) _ x a.2 in
    let r = reads_take more form a.0.1 (lines ++ line ∷ []) (is ++ a.0.0 ∷ []) b.0 (one_goes form p lines is line a.0 k a.1) b.1 in
    subst (λ (y : List ScriptItem × ScriptProgress). Holds form (lines ++ line ∷ more) (is ++ y.0) y.1) (ok_is (a.0.0 ∷ b.0.0, b.0.1) x b.2)
    (subst (λ (ls : List (List ℕ)). Holds form ls (is ++ (a.0.0 ∷ b.0.0)) b.0.1) (append_assoc lines (line ∷ []) more)
    (subst (λ (js : List ScriptItem). Holds form ((lines ++ line ∷ []) ++ more) js b.0.1) (append_assoc is (a.0.0 ∷ []) b.0.0) r))

start_holds : (form : ScriptForm) → Holds form [] [] (script_start form)
start_holds form = record { same = refl; known = record { stands = (refl, refl); uncounted = refl; unpassed = refl; lines_are = refl; items_are = refl } }

ended : (form : ScriptForm) (place : Place) (d : Deployment) (n t : ℕ) (lines : List (List ℕ)) (is : List ScriptItem) → place ≡ places.Ended → Known form place d n t lines is → AtEnd form d n t lines is
ended form places.Version d n t lines is e k = absurd cc
ended form places.Certifier d n t lines is e k = absurd cc
ended form places.Shards d n t lines is e k = absurd cc
ended form places.Parts d n t lines is e k = absurd cc
ended form places.Events d n t lines is e k = absurd cc
ended form places.Ended d n t lines is e k = k

-- lines that are read to the end are those of a script
pub script_read_to_the_end : (form : ScriptForm) (lines : List (List ℕ)) (is : List ScriptItem) (p : ScriptProgress) → script_reads (script_start form) lines ≡ Ok (is, p) → p.head.place ≡ places.Ended
    → IsScriptRead form p lines is
script_read_to_the_end form lines is p h end =
    let r = reads_take lines form (script_start form) [] [] (is, p) (start_holds form) h in
    let k = ended form p.head.place p.head.setup p.lines p.turns lines is end r.known in
    record {
      steps = k.steps;
      script = k.script;
      stands = ap (λ (f : ScriptForm). script_at f p.head.place p.head.setup p.lines p.turns) r.same
          ∙ ap (λ (pl : Place). script_at form pl p.head.setup p.lines p.turns) end
          ∙ ap (λ (n : ℕ). script_at form places.Ended p.head.setup n p.turns) k.counts
          ∙ ap (λ (t : ℕ). script_at form places.Ended p.head.setup (lines_counted form k.steps) t) k.passes;
      lines_are = k.lines_are;
      items_are = k.items_are;
    }
