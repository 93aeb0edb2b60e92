use Rattle.std.proofs.Common.{arith}
use Rattle.wire_frame.proofs.EntryFields.{rows_field}
use Rattle.wire_frame.proofs.rows.rows_of.Goals as goal

pub of-requires : goal.of-requires
of-requires c = ((rows_field c.args.most (omega arith)).takes c.args.bytes.now _ (λ i. omega (arith, c.type_inv.bytes i)) c.in_ok-list.ensures).1.0.in_order
