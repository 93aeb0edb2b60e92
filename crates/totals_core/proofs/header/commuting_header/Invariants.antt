use Rattle.std.proofs.Common.{◌≤◌, ◌-◌}
use Rattle.totals_core.specs.Progressing.{InCommuting}
use Rattle.totals_core.proofs.header.commuting_header.Given as goal

abbrev pub invariant-lines : goal.invariant-lines
invariant-lines g l = record {
  stands : InCommuting l.reading (g.S.Source.left l.initial.input) (g.S.Source.left l.input);
  count : g.S.Source.faults l.initial.input ≤ g.S.Source.faults l.input;
}

abbrev pub decreases-lines : goal.decreases-lines
decreases-lines g l = 1000085 - l.reading.number
