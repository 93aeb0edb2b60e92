use Rattle.std.proofs.Common.{arith}
use Rattle.wire_frame.proofs.SetFields.{shards_field}
use Rattle.wire_frame.proofs.configurations.shards_of.Goals as goal

pub of-requires : goal.of-requires
of-requires c = (shards_field.takes c.args.bytes.now (c.in_ok-numbers.numbers.now, c.in_ok-numbers.rest.now) (λ i. omega (arith, c.type_inv.bytes i)) c.in_ok-numbers.ensures).1
