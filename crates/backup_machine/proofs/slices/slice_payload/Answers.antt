-- What a slice reads is a payload, and there is a version above what it reads.
use Rattle.std.proofs.Common.{ap, ◌+◌, arith}
use Rattle.backup_machine.proofs.Slicing.{greatest_fits, slice_is_a_payload}
use Rattle.backup_machine.proofs.slices.slice_payload.Goals as goal

pub overflow_add-version : goal.overflow_add-version
overflow_add-version c = let h = greatest_fits c.args.kept.now c.requires.are.versions in omega (arith, h, c.greatest-version.ensures)

pub of-requires : goal.of-requires
of-requires c =
    slice_is_a_payload c.args.from.now c.args.upto.now c.args.kept.now c.in_ok-reads.reads.items c.in_ok-ranges.ranges.items c.new.result.items (c.greatest-version.result + 1) c.requires.are c.requires.few
    c.in_ok-reads.ensures.reads c.in_ok-ranges.ensures.ranges c.new.ensures.items (ap (λ n. n + 1) c.greatest-version.ensures) c.in_ok-reads.ensures.parts c.in_ok-ranges.ensures.parts
