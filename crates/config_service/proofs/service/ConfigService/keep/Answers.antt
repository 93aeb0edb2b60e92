use Rattle.std.proofs.Common.{◌≡◌, true, length, ap, arith}
use Rattle.protocol.specs.Service.{last_config, is_next}
use Rattle.config_service.proofs.Growth.{next_indexed, next_stored}
use Rattle.config_service.proofs.service.ConfigService.keep.Goals as goal

pub push_place-requires : goal.push_place-requires
push_place-requires c =
    let stored = c.self.inside in
    let config = c.args.config in
    let next : is_next (last_config stored.configs.items config.shard) config ≡ true = rw c.self.view_is c.requires in
    rw c.shard.ensures.shard (next_indexed stored.configs.items config stored.index.items c.self.invariant next)

pub invariant_of-self-2 : goal.invariant_of-self-2
invariant_of-self-2 c =
    let stored = c.self.inside in
    let config = c.args.config in
    let next : is_next (last_config stored.configs.items config.shard) config ≡ true = rw c.self.view_is c.requires in
    let count : c.len.result ≡ length stored.configs.items = omega (arith, ap length c.reserve.ensures.items) in
    rw (c.in_ok-push.ensures.items, c.reserve.ensures.items, c.in_ok-push_place.ensures.ok, c.shard.ensures.shard, count)
    (next_stored stored.configs.items config stored.index.items c.self.invariant next c.shard.ensures.config)
