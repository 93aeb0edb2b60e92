-- Parts of the text of the schedule that puts objects back.
use Rattle.std.specs.Prelude.{ℕ, List, map}
use Rattle.std.specs.List.{flat_map}
use Rattle.tcs_terms.specs.declared.inputs.Event.{Event}
use Rattle.schedule_text.specs.Text.{event_line, setup_lines, with_feed}
use Rattle.restore_laws.specs.Schedules.{restored_setup}

-- the lines of its header
abbrev pub header_text : List ℕ
header_text = flat_map with_feed (setup_lines restored_setup)

-- the lines of events
abbrev pub events_text : List Event → List ℕ
events_text events = flat_map with_feed (map event_line events)
