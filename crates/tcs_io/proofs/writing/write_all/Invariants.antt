-- So far the sink has taken the bytes before `done`, and no write has failed.
use Rattle.std.proofs.Common.{length, ◌-◌, ◌≡◌, ◌≤◌, ℕ, List, ◌++◌, None, Some, take}
use Rattle.tcs_io.proofs.writing.write_all.Given as goal

abbrev pub invariant-loop-done : goal.invariant-loop-done
invariant-loop-done g l = record {
  within : l.done ≤ length l.piece;
  front : (bytes : List ℕ) → g.K.Sink.held l.initial.sink ≡ Some bytes → g.K.Sink.held l.sink ≡ Some (bytes ++ take l.done l.piece);
  untold : g.K.Sink.held l.initial.sink ≡ None → g.K.Sink.held l.sink ≡ None;
  count : g.K.Sink.faults l.initial.sink ≤ g.K.Sink.faults l.sink;
}

abbrev pub decreases-loop-done : goal.decreases-loop-done
decreases-loop-done g l = length l.piece - l.done
