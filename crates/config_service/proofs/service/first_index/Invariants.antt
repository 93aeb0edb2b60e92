use Rattle.std.proofs.Common.{◌≡◌}
use Rattle.config_service.specs.Index.{first_index}
use Rattle.config_service.proofs.service.first_index.Given as goal

abbrev pub invariant-loop-place : goal.invariant-loop-place
invariant-loop-place l = l.index.items ≡ first_index l.place
