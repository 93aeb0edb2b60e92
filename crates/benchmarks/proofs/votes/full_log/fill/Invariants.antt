use Rattle.std.proofs.Common.{◌+◌}
use Rattle.std.specs.Prelude.{IsTrue}
use Rattle.conflict_index.specs.Slots.{slots_below}
use Rattle.benchmarks.proofs.votes.full_log.fill.Given as goal

-- the guard stands for the rows, whose slots have been reached
abbrev pub invariant-loop-before : goal.invariant-loop-before
invariant-loop-before g l = record {
  stands : g.G.VoteGuard.StandsFor l.guard l.rows.items;
  below : IsTrue (slots_below (l.before + 1) l.rows.items);
}
