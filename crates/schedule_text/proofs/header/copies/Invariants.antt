use Rattle.std.proofs.Common.{◌≡◌, take}
use Rattle.schedule_text.proofs.header.copies.Given as goal

abbrev pub invariant-configs : goal.invariant-configs
invariant-configs l = l.copies.items ≡ take l.config-index l.configs
