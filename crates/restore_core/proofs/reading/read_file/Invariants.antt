use Rattle.std.proofs.Common.{◌≡◌, ℕ, ◌-◌, ◌≤◌, List, Some}
use Rattle.restore_core.specs.Files.{answer_of}
use Rattle.restore_core.specs.Steps.{IsBehind, GoesOn}
use Rattle.restore_core.proofs.reading.read_file.Given as goal

abbrev pub invariant-lines : goal.invariant-lines
invariant-lines g l = record {
  behind : IsBehind l.reading;
  goes : (bytes : List ℕ) → g.S.Source.left l.initial.input ≡ Some bytes → GoesOn (answer_of bytes) l.reading (g.S.Source.left l.input);
  count : g.S.Source.faults l.initial.input ≤ g.S.Source.faults l.input;
}

-- no more lines may stand in a file
abbrev pub decreases-lines : goal.decreases-lines
decreases-lines g l = 104099 - l.reading.lines
