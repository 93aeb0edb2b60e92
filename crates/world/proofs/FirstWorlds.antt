-- A world before its first event.
use Rattle.std.proofs.Common.{◌≡◌, [], refl, arith}
use Rattle.tcs_terms.specs.Setups.{Deployment, IsDeployment}
use Rattle.protocol.specs.Limit.{frame_limit}
use Rattle.protocol.specs.World.{first_world}
use Rattle.world.specs.Casts.{first_cast}
use Rattle.world.specs.Soundness.{world_in, GoesOn}
use Rattle.protocol_laws.proofs.RangesStart.{first_world-in_range}
use Rattle.world.proofs.PeerLaws.{first_nodes-named}

pub first_is : (setup : Deployment) → world_in (first_cast setup) [] [] ≡ first_world setup
unfolding first_world
first_is setup = refl

pub first_goes_on : (setup : Deployment) → IsDeployment setup → GoesOn setup (first_cast setup) [] []
unfolding first_world frame_limit
first_goes_on setup is = record {
  deployment = is;
  version = refl;
  named = first_nodes-named setup.configs 1 setup.nodes;
  in_range = first_world-in_range setup is;
  within = omega arith;
}
