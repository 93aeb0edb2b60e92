-- The setup of generated schedules, in its parts.
use Rattle.std.proofs.Common.{arith}
use Rattle.tcs_terms.specs.Places.{IsMembership}
use Rattle.generated_runs.specs.Setup.{setup, config_of}
use Rattle.generated_runs.proofs.Doings.{setup_is}

pub first_config : IsMembership (config_of 1 1)
unfolding setup
first_config = setup_is.configs 0 (config_of 1 1) (omega arith)

pub second_config : IsMembership (config_of 2 4)
unfolding setup
second_config = setup_is.configs 1 (config_of 1 1) (omega arith)

pub third_config : IsMembership (config_of 3 7)
unfolding setup
third_config = setup_is.configs 2 (config_of 1 1) (omega arith)
