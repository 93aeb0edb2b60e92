-- Which events a run of a setup may have.
use Rattle.std.specs.Prelude.{ℕ, ◌<◌, ◌^◌, List, IsTrue}
use Rattle.std.specs.List.{AllByRecursion}
use Rattle.tcs_terms.specs.declared.inputs.Input.{Input}
use Rattle.tcs_terms.specs.declared.inputs.Input.TheVariants.{Certify, Take, Nudge, Move, Lower, ReadName, Ask, Deliver}
use Rattle.tcs_terms.specs.declared.inputs.Event.{Event}
use Rattle.tcs_terms.specs.declared.inputs.Event.TheVariants.{Call, DeliverNumber, Stop}
use Rattle.tcs_terms.specs.Events.{event_fits}
use Rattle.tcs_terms.specs.Objects.{IsName}
use Rattle.tcs_terms.specs.Payloads.{IsPayload}
use Rattle.tcs_terms.specs.Setups.{Deployment, IsDeployment}

-- the values that the input of a call can have, as its type promises: a payload is well formed, and a name is one
abbrev pub IsInput : Input → Type 0
IsInput (Certify payload) = IsPayload payload
IsInput (Take txn) = Unit {0}
IsInput Nudge = Unit {0}
IsInput (Move shard want) = Unit {0}
IsInput Lower = Unit {0}
IsInput (ReadName name) = IsName name
IsInput (Ask shard) = Unit {0}
IsInput (Deliver from message) = Unit {0}

-- the values that an event can have, as its type promises: a message's number is below 2 ^ 32
abbrev pub IsEvent : Event → Type 0
IsEvent (Call node input) = IsInput input
IsEvent (DeliverNumber number) = number < 2 ^ 32
IsEvent (Stop node) = Unit {0}

-- an event that may stand in a run of the setup: its numbers fit, its payload is a payload, and its input is no delivery
-- (a delivery of a message by value does not fit)
pub record MayStand (d : Deployment) (e : Event) : Type 0 where
  pub event : IsEvent e
  pub fits : IsTrue (event_fits d e)

-- a setup, and events that may stand in a run of it
pub record AreEventsOf (d : Deployment) (es : List Event) : Type 0 where
  pub deployment : IsDeployment d
  pub events : AllByRecursion (MayStand d) es
