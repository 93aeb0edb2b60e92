use Rattle.config_service.proofs.Lookups.{last_config_place}
use Rattle.config_service.specs.Index.{places_of}
use Rattle.config_service.proofs.service.ConfigService.last.Goals as goal

pub returns : goal.returns
returns c =
    let stored = c.self.inside in
    let there = last_config_place stored.configs.items c.args.shard (places_of stored.index.items c.args.shard) (c.self.invariant.each c.args.shard) in
    cc
