use Rattle.std.proofs.Common.{ℕ, ◌-◌, ◌<◌, ◌≤◌, length}
use Rattle.std.specs.Prelude.{slice_index}
use Rattle.conflict_index.specs.Slots.{slots_of}
use Rattle.conflict_index.proofs.row_search.split_at.Given as goal

abbrev pub invariant-loop-low : goal.invariant-loop-low
invariant-loop-low l = record {
  in_order : l.low ≤ l.high;
  within : l.high ≤ length l.rows;
  below : (k : ℕ) → k < l.low → slice_index (slots_of l.rows) k < l.slot;
  from_there : (k : ℕ) → l.high ≤ k → k < length l.rows → l.slot ≤ slice_index (slots_of l.rows) k;
}

abbrev pub decreases-loop-low : goal.decreases-loop-low
decreases-loop-low l = l.high - l.low
