use Rattle.std.proofs.Common.{◌≡◌, ℕ, ◌-◌, ◌≤◌, false, List, ◌++◌, None, Some, length, take}
use Rattle.schedule_text.specs.declared.lines.TheConstants.{ROOM}
use Rattle.schedule_text.specs.Lines.{has_feed, Decided, Keeps}
use Rattle.schedule_text.proofs.lines.Lines.look.Given as goal

abbrev pub invariant-reads : goal.invariant-reads
invariant-reads g l = record {
  inside : l.searched ≤ length l.self;
  none_before : has_feed (take l.searched l.self) ≡ false;
  kept : (rest : List ℕ) → g.S.Source.left l.initial.source ≡ Some rest
      → Keeps (l.initial.self ++ rest) l.self (g.S.Source.left l.source);
  alone : Decided l.initial.self → (l.self ≡ l.initial.self) × (l.source ≡ l.initial.source);
  untold : g.S.Source.left l.initial.source ≡ None → g.S.Source.left l.source ≡ None;
  count : g.S.Source.faults l.initial.source ≤ g.S.Source.faults l.source;
}

abbrev pub decreases-reads : goal.decreases-reads
decreases-reads g l = ROOM - length l.self
