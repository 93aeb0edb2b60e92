use Rattle.std.proofs.Common.{◌≡◌, ℕ, ◌-◌, ◌≤◌, false, List, ◌++◌, Some, length}
use Rattle.schedule_text.specs.Lines.{has_feed}
use Rattle.long_lines.specs.Texts.{Gathers}
use Rattle.long_lines.proofs.texts.Texts.next_text.Given as goal

abbrev pub invariant-pieces : goal.invariant-pieces
invariant-pieces g l = record {
  short : length l.text.items ≤ l.most;
  one_line : has_feed l.text.items ≡ false;
  gathers : (rest : List ℕ) → g.S.Source.left l.initial.source ≡ Some rest
      → Gathers (l.initial.self ++ rest) l.text.items l.self (g.S.Source.left l.source);
  count : g.S.Source.faults l.initial.source ≤ g.S.Source.faults l.source;
}

abbrev pub decreases-pieces : goal.decreases-pieces
decreases-pieces g l = l.most - length l.text.items
