use Rattle.std.proofs.Common.{arith}
use Rattle.wire_frame.proofs.PayloadFields.{is_payload}
use Rattle.wire_frame.proofs.payloads.payload_of.Goals as goal

pub of-requires : goal.of-requires
of-requires c =
    is_payload c.args.bytes.now c.in_ok-version.rest.now c.in_ok-byte.byte c.reads_count.result c.has_ranges.result c.in_ok-byte.rest.now c.in_ok-reads.rest.now c.in_ok-ranges.rest.now c.in_ok-writes.rest.now _
    (λ i. omega (arith, c.type_inv.bytes i)) c.in_ok-version.ensures c.in_ok-byte.ensures c.reads_count.ensures c.in_ok-reads.ensures c.has_ranges.ensures c.in_ok-ranges.ensures (rw c.deref.ensures.value at c.in_ok-writes.ensures)
