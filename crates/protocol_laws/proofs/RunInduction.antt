-- Induction over the events of a run, with the invariant at hand.
use Rattle.std.proofs.Common.{ℕ, List, [], ◌∷◌, fold}
use Rattle.std.specs.List.{AllByRecursion}
use Rattle.tcs_terms.specs.declared.inputs.Event.{Event}
use Rattle.tcs_terms.specs.Runs.{AreEventsOf, MayStand}
use Rattle.tcs_terms.specs.Setups.{Deployment, IsDeployment}
use Rattle.tcs_laws.specs.Certification.{Tests}
use Rattle.protocol.proofs.Start.{start-InvariantHolds}
use Rattle.protocol.specs.Invariant.{InvariantHolds}
use Rattle.protocol.specs.Invariant.Time.{Moment, goes_to, time_after}
use Rattle.protocol.specs.World.{Happening, first_world, world_step}
use Rattle.protocol_laws.proofs.ChangeOf.{change_of}
use Rattle.protocol_laws.proofs.Kept.{invariant_kept}
use Rattle.protocol_laws.specs.Turn.{Turn}

-- what each turn keeps; the invariant holds before and after it
abbrev pub IsKept : Tests → Deployment → (Moment → Type 0) → Type 0
IsKept tests setup P = (t : Moment) (event : Event) (h : Happening) → Turn tests setup t event h → InvariantHolds tests setup (goes_to t h.after) → MayStand setup event → P t → P (goes_to t h.after)

-- the moment after more events
abbrev goes_on : Tests → ℕ → Moment → List Event → Moment
goes_on tests version t events = fold (λ m e. goes_to m (world_step tests version m.now e).after) t events

record Both (tests : Tests) (setup : Deployment) (P : Moment → Type 0) (t : Moment) : Type 0 where
  holds : InvariantHolds tests setup t
  kept : P t

from_moment : (tests : Tests) (setup : Deployment) (P : Moment → Type 0) → IsDeployment setup → IsKept tests setup P
    → (events : List Event) → AllByRecursion (MayStand setup) events → (t : Moment) → Both tests setup P t → Both tests setup P (goes_on tests setup.version t events)
from_moment tests setup P d k [] s t b = b
from_moment tests setup P d k (e ∷ es) s t b =
    let h : Happening = world_step tests setup.version t.now e in
    let turn : Turn tests setup t e h = record { deployment = d; fits = s.0.fits; before = b.holds; change = change_of tests setup.version t.now e } in
    let after : InvariantHolds tests setup (goes_to t h.after) = invariant_kept tests setup t e h turn in
    from_moment tests setup P d k es s.1 (goes_to t h.after) (record { holds = after; kept = k t e h turn after s.0 b.kept })

at_start : (tests : Tests) (setup : Deployment) → IsDeployment setup → InvariantHolds tests setup (record { now = first_world setup; before = [] })
unfolding time_after
at_start tests setup d = start-InvariantHolds tests setup d

-- what holds as a run begins, and what each turn keeps, holds at its end
pub run_induction : (tests : Tests) (setup : Deployment) (P : Moment → Type 0) → IsKept tests setup P → P (record { now = first_world setup; before = [] })
    → (events : List Event) → AreEventsOf setup events → P (time_after tests setup events)
unfolding time_after
run_induction tests setup P k p events a =
    (from_moment tests setup P a.deployment k events a.events (record { now = first_world setup; before = [] }) (record { holds = at_start tests setup a.deployment; kept = p })).kept

-- the invariant holds at the end of each run
pub invariant_at : (tests : Tests) (setup : Deployment) (events : List Event) → AreEventsOf setup events → InvariantHolds tests setup (time_after tests setup events)
unfolding time_after
invariant_at tests setup events a =
    (from_moment tests setup (λ t. Unit {0}) a.deployment (λ t event h turn after q u. tt) events a.events (record { now = first_world setup; before = [] }) (record { holds = at_start tests setup a.deployment; kept = tt })).holds
