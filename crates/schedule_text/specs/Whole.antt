-- Whole schedules, and how all of their lines are read.
use Rattle.std.specs.Prelude.{◌≡◌, ℕ, ◌≤◌, List, [], ◌∷◌, ◌++◌, length, map, Result, Ok}
use Rattle.std.specs.List.{AllByRecursion}
use Rattle.tcs_terms.specs.declared.inputs.Event.{Event}
use Rattle.text_words.specs.declared.words.Reason.{Reason}
use Rattle.tcs_terms.specs.Runs.{MayStand}
use Rattle.tcs_terms.specs.Setups.{Deployment, IsDeployment}
use Rattle.schedule_text.specs.declared.limits.TheConstants.{EVENT_LIMIT}
use Rattle.schedule_text.specs.declared.lines.Got.TheVariants.{Whole}
use Rattle.schedule_text.specs.declared.places.Place.TheVariants as places
use Rattle.schedule_text.specs.declared.reader.LineItem.{LineItem}
use Rattle.schedule_text.specs.declared.reader.LineItem.TheVariants as items
use Rattle.schedule_text.specs.Text.{first_lines, node_lines, config_line, schedule_lines}
use Rattle.text_words.specs.PayloadWords.{◌>>=◌}
use Rattle.schedule_text.specs.Schedules.{Progress, line_reading}

-- a setup, and at most 1,000,000 events that fit it
pub record IsSchedule (d : Deployment) (es : List Event) : Type 0 where
  pub setup : IsDeployment d
  pub events : AllByRecursion (MayStand d) es
  pub few : length es ≤ EVENT_LIMIT

-- how lines are read, one after the other, each of them whole
abbrev pub reads : Progress → List (List ℕ) → Result (List LineItem × Progress) Reason
reads p [] = Ok ([], p)
reads p (line ∷ lines) = line_reading p Whole line >>= λ r. reads r.1 lines >>= λ rs. Ok (r.0 ∷ rs.0, rs.1)

-- what the lines of a schedule are, in order
abbrev pub header_items : Deployment → List LineItem
header_items d = map (λ line. items.Header) (first_lines d ++ (node_lines 1 d.nodes ++ map config_line d.configs))

abbrev pub schedule_items : Deployment → List Event → List LineItem
schedule_items d es = header_items d ++ (items.Begun d ∷ (map (λ e. items.Event e) es ++ items.End ∷ []))

-- where a reader stands that has read a whole schedule with so many events
abbrev pub at_end : Deployment → ℕ → Progress
at_end d count = record { head = record { place = places.Ended; setup = d }; count = count }

-- what was read to the end is a schedule: its lines, and what each of them is
pub record IsRead (d : Deployment) (count : ℕ) (lines : List (List ℕ)) (is : List LineItem) : Type 0 where
  pub events : List Event
  pub schedule : IsSchedule d events
  pub counted : count ≡ length events
  pub lines_are : lines ≡ schedule_lines d events
  pub items_are : is ≡ schedule_items d events

-- a schedule of the setup begins with these lines
pub record Begins (d : Deployment) (lines : List (List ℕ)) : Type 0 where
  pub events : List Event
  pub schedule : IsSchedule d events
  pub more : List (List ℕ)
  pub whole : schedule_lines d events ≡ lines ++ more
