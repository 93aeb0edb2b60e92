use Rattle.std.proofs.Common.{map, take}
use Rattle.std.specs.List.{flat_map}
use Rattle.schedule_text.specs.Text.{config_line, with_feed}
use Rattle.tcs_terms.proofs.Appending.{stops_behind}
use Rattle.schedule_text.proofs.printing.put_configs.Goals as goal

pub returns-in_err-put_config-clause-err : goal.returns-in_err-put_config-clause-err
returns-in_err-put_config-clause-err c =
    stops_behind c.from_residual.result _ (flat_map with_feed (map config_line (take c.configs.config-index c.args.configs.now))) c.configs.out.items _ c.configs.invariant
    c.in_err-put_config.ensures.err
