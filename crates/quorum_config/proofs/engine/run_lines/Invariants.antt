use Rattle.std.proofs.Common.{◌≡◌, ◌+◌, ◌<◌, ◌≤◌, ℕ, List, Some}
use Rattle.quorum_config.specs.Standing.{IsAt}
use Rattle.quorum_config.specs.Walks.{lines_left}
use Rattle.quorum_config.proofs.engine.run_lines.Given as goal

abbrev pub invariant-lines : goal.invariant-lines
invariant-lines g l = record {
  stands : (bytes before : List ℕ) → g.S.Source.left l.initial.input ≡ Some bytes → g.K.Sink.held l.initial.output ≡ Some before
      → IsAt bytes before l.engine.lines l.engine.number l.engine.store (g.S.Source.left l.input) (g.K.Sink.held l.output);
  few : l.engine.number + lines_left l.engine.store.progress < 4294967295;
  read : g.S.Source.faults l.initial.input ≤ g.S.Source.faults l.input;
  wrote : g.K.Sink.faults l.initial.output ≤ g.K.Sink.faults l.output;
}

abbrev pub decreases-lines : goal.decreases-lines
decreases-lines g l = lines_left l.engine.store.progress
