use Rattle.std.proofs.Common.{arith}
use Rattle.wire_frame.proofs.NameFields.{is_value}
use Rattle.wire_frame.proofs.names.value_of.Goals as goal

pub of-requires : goal.of-requires
of-requires c =
    is_value c.args.bytes.now c.in_ok-count.count c.in_ok-count.rest.now c.in_ok-value.value.now c.in_ok-value.rest.now (λ i. omega (arith, c.type_inv.bytes i)) c.in_ok-count.ensures (omega arith) c.in_ok-value.ensures
