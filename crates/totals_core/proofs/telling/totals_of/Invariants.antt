use Rattle.std.proofs.Common.{take}
use Rattle.counters.specs.Histories.{AreTotals}
use Rattle.totals_core.proofs.telling.totals_of.Given as goal

abbrev pub invariant-loop-note : goal.invariant-loop-note
invariant-loop-note l = AreTotals l.totals (take l.note-index l.history)
