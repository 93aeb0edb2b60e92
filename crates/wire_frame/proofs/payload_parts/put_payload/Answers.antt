use Rattle.tcs_terms.proofs.Appending.{err_behind}
use Rattle.wire_frame.proofs.payload_parts.put_payload.Goals as goal

pub returns-clause-err : goal.returns-clause-err
returns-clause-err c =
    let all = c.put_writes.new.out.items in
    err_behind c.put_writes.result c.args.out.now.items _ c.put_u64.new.out.items all c.in_ok-put_u64.ensures.ok
    (err_behind c.put_writes.result c.put_u64.new.out.items _ c.put_byte.new.out.items all c.in_ok-put_byte.ensures.ok
    (err_behind c.put_writes.result c.put_byte.new.out.items _ c.put_reads.new.out.items all c.in_ok-put_reads.ensures.ok
    (err_behind c.put_writes.result c.put_reads.new.out.items _ c.put_ranges.new.out.items all c.in_ok-put_ranges.ensures.ok
    (err_behind c.put_writes.result c.put_ranges.new.out.items _ c.put_byte-2.new.out.items all c.in_ok-put_byte-2.ensures.ok c.put_writes.ensures.err))))
