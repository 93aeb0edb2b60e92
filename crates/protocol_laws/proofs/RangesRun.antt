-- Every run of a setup is in range.
use Rattle.std.proofs.Common.{List, [], ◌∷◌}
use Rattle.std.specs.List.{AllByRecursion}
use Rattle.tcs_terms.specs.declared.inputs.Event.{Event}
use Rattle.tcs_terms.specs.Setups.{Deployment, IsDeployment}
use Rattle.tcs_laws.specs.Certification.{Tests}
use Rattle.protocol.specs.Run.{run, world_after}
use Rattle.protocol.specs.World.{World, first_world, world_step}
use Rattle.protocol_laws.specs.Ranges.{IsWorldInRange}
use Rattle.tcs_terms.specs.Runs.{AreEventsOf, MayStand}
use Rattle.protocol_laws.proofs.RangesStart.{first_world-in_range, event-in_range}
use Rattle.protocol_laws.proofs.RangesWorld.{world_step-in_range}

after-in_range : (tests : Tests) (setup : Deployment) (w : World) (events : List Event) → IsDeployment setup → AllByRecursion (MayStand setup) events → IsWorldInRange w → IsWorldInRange (world_after tests setup.version w events)
unfolding world_after
after-in_range tests setup w [] d m k = k
after-in_range tests setup w (e ∷ es) d m k = after-in_range tests setup (world_step tests setup.version w e).after es d m.1 (world_step-in_range tests setup.version w e k (event-in_range setup e d m.0)).after

pub run-in_range : (tests : Tests) (setup : Deployment) (events : List Event) → AreEventsOf setup events → IsWorldInRange (run tests setup events)
unfolding run
run-in_range tests setup events a = after-in_range tests setup (first_world setup) events a.deployment a.events (first_world-in_range setup a.deployment)
