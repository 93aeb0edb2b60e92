-- A run that remembers its past is the run.
use Rattle.std.proofs.Common.{◌≡◌, ℕ, List, [], ◌∷◌, fold, refl}
use Rattle.tcs_terms.specs.declared.inputs.Event.{Event}
use Rattle.tcs_terms.specs.Setups.{Deployment}
use Rattle.tcs_laws.specs.Certification.{Tests}
use Rattle.protocol.specs.Invariant.Time.{Moment, goes_to, time_after}
use Rattle.protocol.specs.Run.{run, world_after}
use Rattle.protocol.specs.World.{first_world, world_step}

-- the same, from a moment on
moments-now : (tests : Tests) (version : ℕ) (events : List Event) (t : Moment)
    → (fold (λ m e. goes_to m (world_step tests version m.now e).after) t events).now ≡ world_after tests version t.now events
unfolding world_after
moments-now tests version [] t = refl
moments-now tests version (e ∷ es) t = moments-now tests version es (goes_to t (world_step tests version t.now e).after)

pub time_after-now : (tests : Tests) (setup : Deployment) (events : List Event) → (time_after tests setup events).now ≡ run tests setup events
unfolding time_after run
time_after-now tests setup events = moments-now tests setup.version events (record { now = first_world setup; before = [] })
