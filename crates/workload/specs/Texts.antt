-- The text of a generated schedule.
use Rattle.std.specs.Prelude.{ℕ, List, ◌++◌, map}
use Rattle.std.specs.List.{flat_map}
use Rattle.schedule_text.specs.Text.{setup_lines, with_feed, event_line, schedule_text}
use Rattle.generated_runs.specs.Setup.{setup}
use Rattle.generated_runs.specs.Runs.{events_until, schedule}

-- the header and the lines of the first so many events
abbrev pub front_until : ℕ → ℕ → ℕ → List ℕ
front_until seed count place = flat_map with_feed (setup_lines setup ++ map event_line (events_until seed count place))

-- the whole text
abbrev pub generated_text : ℕ → ℕ → List ℕ
generated_text seed count = schedule_text setup (schedule seed count)
