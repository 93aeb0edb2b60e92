-- A run under the limit on its frames' bytes is the run, up to where it ends.
use Rattle.std.specs.Prelude.{◌≡◌, ℕ, ◌<◌, ◌≤◌, List, [], ◌∷◌, ◌++◌, length}
use Rattle.tcs_terms.specs.declared.inputs.Event.{Event}
use Rattle.tcs_terms.specs.Setups.{Deployment}
use Rattle.tcs_laws.specs.Certification.{Tests}
use Rattle.protocol.specs.Limit.{Progress, frame_bytes, frame_limit, remains}
use Rattle.protocol.specs.Limit.Progress.{Live, Ended}
use Rattle.protocol.specs.Run.{run}
use Rattle.protocol.specs.World.{World}

-- the limit was not passed: the world is that of the whole run
pub record IsWhole (tests : Tests) (setup : Deployment) (events : List Event) (w : World) (count bytes : ℕ) : Type 0 where
  pub world : w ≡ run tests setup events
  pub counted : count ≡ length events
  pub summed : bytes ≡ frame_bytes w.messages
  pub within : bytes ≤ frame_limit

-- the limit was passed by one event: what remains is that of the run before it
pub record IsCut (tests : Tests) (setup : Deployment) (events : List Event) (w : World) (count bytes : ℕ) : Type 0 where
  pub before : List Event
  pub event : Event
  pub after : List Event
  pub split : events ≡ before ++ (event ∷ after)
  pub world : w ≡ remains (run tests setup before)
  pub counted : count ≡ length before
  pub within : frame_bytes (run tests setup before).messages ≤ frame_limit
  pub summed : bytes ≡ frame_bytes (run tests setup (before ++ event ∷ [])).messages
  pub passed : frame_limit < bytes

-- either way
abbrev pub LimitHolds : Tests → Deployment → List Event → Progress → Type 0
LimitHolds tests setup events (Live w count bytes) = IsWhole tests setup events w count bytes
LimitHolds tests setup events (Ended w count bytes) = IsCut tests setup events w count bytes
