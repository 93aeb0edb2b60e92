-- Which events have a line in a schedule.
use Rattle.std.specs.Prelude.{Bool, true, false}
use Rattle.tcs_terms.specs.declared.inputs.Input.TheVariants.{Deliver}
use Rattle.tcs_terms.specs.declared.inputs.Event.{Event}
use Rattle.tcs_terms.specs.declared.inputs.Event.TheVariants.{Call}

-- every event has one, but a delivery of a message by value
abbrev pub has_line : Event → Bool
has_line (Call node (Deliver from message)) = false
has_line event = true
