-- Line by line, up to the end.
use Rattle.std.proofs.Common.{arith}
use Rattle.restore_core.proofs.Stepping.{ends_well, fresh_behind, fresh_goes}
use Rattle.restore_core.proofs.reading.read_file.Goals as goal

pub lines-init : goal.lines-init
lines-init g c = record {
  behind = fresh_behind _ c.in_ok-reading.ensures;
  goes = λ bytes told. fresh_goes _ bytes _ c.in_ok-reading.ensures told;
  count = omega arith;
}

pub returns-then-not-branch-clause-file : goal.returns-then-not-branch-clause-file
returns-then-not-branch-clause-file g c = λ bytes told.
    let so_far = c.lines.invariant.goes bytes told in
    ends_well bytes c.lines.reading c.next.new.self _ _ so_far _ c.if-not-branch.true (c.in_ok-next.ensures.goes so_far.rest so_far.told)
