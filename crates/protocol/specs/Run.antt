-- A run: its events one after the other, from the first world on.
use Rattle.std.specs.Prelude.{ℕ, List, [], ◌∷◌, ◌++◌, fold}
use Rattle.tcs_terms.specs.declared.inputs.Event.{Event}
use Rattle.tcs_terms.specs.declared.inputs.Result1.{Result1}
use Rattle.tcs_terms.specs.Setups.{Deployment}
use Rattle.tcs_laws.specs.Certification.{Tests}
use Rattle.protocol.specs.World.{World, Happening, first_world, world_step}

-- the world after these events
unfoldable pub world_after : Tests → ℕ → World → List Event → World
world_after tests version w [] = w
world_after tests version w (e ∷ es) = world_after tests version (world_step tests version w e).after es

-- the run of a setup over a list of events
unfoldable pub run : Tests → Deployment → List Event → World
run tests setup events = world_after tests setup.version (first_world setup) events

-- what the events of a run come to, and the world after them
pub record Ran : Type 0 where
  pub results : List Result1
  pub world : World

-- a run with one more event
abbrev pub ran_on : Ran → Happening → Ran
ran_on so_far h = record { results = so_far.results ++ h.result ∷ []; world = h.after }

-- a run with the result of each event
unfoldable pub ran : Tests → Deployment → List Event → Ran
ran tests setup events =
    fold (λ so_far e. ran_on so_far (world_step tests setup.version so_far.world e)) (record { results = []; world = first_world setup }) events
