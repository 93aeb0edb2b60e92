use Rattle.std.proofs.Common.{◌≡◌, ◌++◌, map, take}
use Rattle.std.specs.List.{flat_map}
use Rattle.schedule_text.specs.Text.{config_line, with_feed}
use Rattle.schedule_text.proofs.printing.put_configs.Given as goal

abbrev pub invariant-configs : goal.invariant-configs
invariant-configs l = l.out.items ≡ l.fn.out.items ++ flat_map with_feed (map config_line (take l.config-index l.configs))
