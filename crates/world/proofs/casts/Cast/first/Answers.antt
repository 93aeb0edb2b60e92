use Rattle.config_service.proofs.SetupFirsts.{firsts_of_setup}
use Rattle.world.proofs.casts.Cast.first.Goals as goal

pub build-requires : goal.build-requires
build-requires g c = rw c.in_ok-configs.ensures.configs (firsts_of_setup c.args.setup.now c.in_ok-configs.ensures.setup)
