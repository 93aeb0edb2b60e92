use Rattle.std.proofs.Common.{◌≡◌, true, false, ◌&&◌, length, refl, sym, ◌∙◌}
use Rattle.std.specs.Prelude.{◌==◌}
use Rattle.std.specs.List.{list_all}
use Rattle.tcs_terms.specs.Shards.{lies_in, part_in}
use Rattle.tcs_terms.proofs.ShardLaws.{part_is_payload, whole_part}
use Rattle.tcs_terms.proofs.payloads.Payload.restrict.Goals as goal

pub of-requires : goal.of-requires
of-requires c =
    let p = c.args.self.now in
    let some : ((length (part_in c.args.n c.args.shard p).reads == 0) && (length p.ranges == 0)) ≡ false =
    rw (c.deref.ensures.value, c.in_ok-reads.ensures, c.reads-all_reads.ensures.reads, c.ranges-all_ranges.ensures.ranges) at (sym c.reads_nothing.ensures ∙ c.if-reads_nothing.false) in
    rw (c.in_ok-reads.ensures, c.reads-all_reads.ensures.reads, c.in_ok-ranges.ensures, c.ranges-all_ranges.ensures.ranges, c.in_ok-writes.ensures, c.writes.ensures.writes, c.version.ensures.version)
    (part_is_payload c.args.n c.args.shard p c.version.ensures.payload some)

pub returns-then-all_lie_in : goal.returns-then-all_lie_in
returns-then-all_lie_in c =
    let p = c.args.self.now in
    let all : list_all (λ r. lies_in c.args.n c.args.shard r.name) p.reads ≡ true = rw c.reads-all_reads.ensures.reads at (sym c.all_lie_in.ensures ∙ c.if-all_lie_in.true) in
    rw c.in_ok-copy.ensures (sym (whole_part c.args.n c.args.shard p c.reads-all_reads.ensures.payload all))

pub returns : goal.returns
returns c =
    let p = c.args.self.now in
    let some : ((length (part_in c.args.n c.args.shard p).reads == 0) && (length p.ranges == 0)) ≡ false =
    rw (c.deref.ensures.value, c.in_ok-reads.ensures, c.reads-all_reads.ensures.reads, c.ranges-all_ranges.ensures.ranges) at (sym c.reads_nothing.ensures ∙ c.if-reads_nothing.false) in
    rw (c.in_ok-part.ensures, c.in_ok-reads.ensures, c.reads-all_reads.ensures.reads, c.in_ok-ranges.ensures, c.ranges-all_ranges.ensures.ranges, c.in_ok-writes.ensures, c.writes.ensures.writes, c.version.ensures.version, some) refl
