use Rattle.std.proofs.Common.{arith}
use Rattle.wire_frame.proofs.SetFields.{is_config}
use Rattle.wire_frame.proofs.configurations.config_of.Goals as goal

pub of-requires : goal.of-requires
of-requires c =
    is_config c.args.bytes.now c.in_ok-shard.rest.now c.in_ok-epoch.rest.now c.in_ok-members.rest.now c.in_ok-leader.rest.now c.in_ok-by.rest.now _ (λ i. omega (arith, c.type_inv.bytes i))
    c.in_ok-shard.ensures c.in_ok-epoch.ensures c.in_ok-members.ensures c.in_ok-leader.ensures c.in_ok-by.ensures
