-- The text of a script, whole scripts, and how all of their lines are read.
use Rattle.std.specs.Prelude.{◌≡◌, ℕ, ◌+◌, ◌≤◌, Bool, true, false, List, [], ◌∷◌, ◌++◌, map, codes, Result, Ok}
use Rattle.std.specs.List.{flat_map, AllByRecursion}
use Rattle.tcs_terms.specs.declared.inputs.Event.{Event}
use Rattle.tcs_terms.specs.declared.inputs.Event.TheVariants.{Call, DeliverNumber, Stop}
use Rattle.text_words.specs.declared.words.Reason.{Reason}
use Rattle.tcs_terms.specs.Runs.{MayStand}
use Rattle.tcs_terms.specs.Setups.{Deployment, IsDeployment}
use Rattle.schedule_text.specs.declared.limits.TheConstants.{SCRIPT_LINES, MOST_TURNS, MOST_NODE_TURNS}
use Rattle.schedule_text.specs.declared.lines.Got.TheVariants.{Whole}
use Rattle.schedule_text.specs.declared.places.Place.TheVariants as places
use Rattle.schedule_text.specs.declared.script.ScriptForm.{ScriptForm}
use Rattle.schedule_text.specs.declared.script.ScriptForm.TheVariants.{Cluster, Node}
use Rattle.schedule_text.specs.declared.script.ScriptItem.{ScriptItem}
use Rattle.schedule_text.specs.declared.script.ScriptItem.TheVariants as items
use Rattle.schedule_text.specs.Events.{names_only}
use Rattle.schedule_text.specs.Header.{has_place_for}
use Rattle.schedule_text.specs.Scripts.{ScriptProgress, only_of, script_reading}
use Rattle.schedule_text.specs.Text.{spaced_number, first_lines, node_lines, config_line, setup_lines, event_line, with_feed}
use Rattle.text_words.specs.PayloadWords.{◌>>=◌}

-- ---- the lines

-- what a line between the header and the end says: an event happens, or so many turns pass
pub data ScriptStep : Type 0 where
  Happens : (event : Event) → ScriptStep
  Settles : (turns : ℕ) → ScriptStep

abbrev pub settle_line : ℕ → List ℕ
settle_line turns = codes "settle" ++ spaced_number turns

abbrev pub step_line : ScriptStep → List ℕ
step_line (Happens event) = event_line event
step_line (Settles turns) = settle_line turns

-- the lines of a script
abbrev pub script_lines : Deployment → List ScriptStep → List (List ℕ)
script_lines d steps = setup_lines d ++ (map step_line steps ++ codes "end" ∷ [])

-- the one text of a script
abbrev pub script_text : Deployment → List ScriptStep → List ℕ
script_text d steps = flat_map with_feed (script_lines d steps)

-- ---- whole scripts

abbrev pub is_delivery : Event → Bool
is_delivery (Call node input) = false
is_delivery (DeliverNumber number) = true
is_delivery (Stop node) = false

-- an event fits the setup, is no delivery, and is at the node for which the script is, if it is for one alone; one line
-- lets 1 to 15,000 turns pass, or, of one node's, 1 to 1,000,000,000
abbrev pub StepStands : ScriptForm → Deployment → ScriptStep → Type 0
StepStands form d (Happens event) = MayStand d event × (is_delivery event ≡ false) × (names_only (only_of form) event ≡ true)
StepStands (Cluster most) d (Settles turns) = (1 ≤ turns) × (turns ≤ MOST_TURNS)
StepStands (Node id) d (Settles turns) = (1 ≤ turns) × (turns ≤ MOST_NODE_TURNS)

-- a line counts as one of the 25,000, but for one of a cluster that lets turns pass
abbrev pub counted : ScriptForm → ScriptStep → ℕ
counted form (Happens event) = 1
counted (Cluster most) (Settles turns) = 0
counted (Node id) (Settles turns) = 1

abbrev pub lines_counted : ScriptForm → List ScriptStep → ℕ
lines_counted form [] = 0
lines_counted form (step ∷ steps) = counted form step + lines_counted form steps

-- the turns of a line, where the sum of them is limited
abbrev pub passed : ScriptForm → ScriptStep → ℕ
passed form (Happens event) = 0
passed (Cluster most) (Settles turns) = turns
passed (Node id) (Settles turns) = 0

abbrev pub turns_passed : ScriptForm → List ScriptStep → ℕ
turns_passed form [] = 0
turns_passed form (step ∷ steps) = passed form step + turns_passed form steps

-- so many turns may pass in all
abbrev pub MayPass : ScriptForm → ℕ → Type 0
MayPass (Cluster most) turns = turns ≤ most
MayPass (Node id) turns = Unit {0}

-- a setup with a place for the node for which the script is, at most 25,000 lines that count, and turns that may pass
pub record IsScript (form : ScriptForm) (d : Deployment) (steps : List ScriptStep) : Type 0 where
  pub setup : IsDeployment d
  pub place : has_place_for (only_of form) d ≡ true
  pub each : AllByRecursion (StepStands form d) steps
  pub few : lines_counted form steps ≤ SCRIPT_LINES
  pub short : MayPass form (turns_passed form steps)

-- ---- reading

-- how lines are read, one after the other, each of them whole
abbrev pub script_reads : ScriptProgress → List (List ℕ) → Result (List ScriptItem × ScriptProgress) Reason
script_reads p [] = Ok ([], p)
script_reads p (line ∷ lines) = script_reading p Whole line >>= λ r. script_reads r.1 lines >>= λ rs. Ok (r.0 ∷ rs.0, rs.1)

-- what the lines of a script are, in order
abbrev pub step_item : ScriptStep → ScriptItem
step_item (Happens event) = items.Event event
step_item (Settles turns) = items.Settle turns

abbrev pub script_header_items : Deployment → List ScriptItem
script_header_items d = map (λ line. items.Header) (first_lines d ++ (node_lines 1 d.nodes ++ map config_line d.configs))

abbrev pub script_items : Deployment → List ScriptStep → List ScriptItem
script_items d steps = script_header_items d ++ (items.Begun d ∷ (map step_item steps ++ items.End ∷ []))

-- where a reader stands that has read a whole script
abbrev pub script_at_end : ScriptForm → Deployment → List ScriptStep → ScriptProgress
script_at_end form d steps =
    record { form = form; head = record { place = places.Ended; setup = d }; lines = lines_counted form steps; turns = turns_passed form steps }

-- what was read to the end is a script: its lines, and what each of them is
pub record IsScriptRead (form : ScriptForm) (p : ScriptProgress) (lines : List (List ℕ)) (is : List ScriptItem) : Type 0 where
  pub steps : List ScriptStep
  pub script : IsScript form p.head.setup steps
  pub stands : p ≡ script_at_end form p.head.setup steps
  pub lines_are : lines ≡ script_lines p.head.setup steps
  pub items_are : is ≡ script_items p.head.setup steps
