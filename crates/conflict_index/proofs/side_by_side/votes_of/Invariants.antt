use Rattle.std.proofs.Common.{◌+◌}
use Rattle.std.specs.Prelude.{IsTrue}
use Rattle.conflict_index.specs.Slots.{slots_below}
use Rattle.conflict_index.proofs.side_by_side.votes_of.Given as goal

-- the index stands for the rows, whose slots have been reached
abbrev pub invariant-loop-before : goal.invariant-loop-before
invariant-loop-before g l = record {
  stands : g.G.VoteGuard.StandsFor l.index l.rows.items;
  below : IsTrue (slots_below (l.before + 1) l.rows.items);
}
