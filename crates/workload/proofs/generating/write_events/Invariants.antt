use Rattle.std.proofs.Common.{◌≡◌, ◌≤◌, ℕ, List, ◌++◌}
use Rattle.std.specs.Prelude.{Some}
use Rattle.workload.specs.Standing.{StandsAt}
use Rattle.workload.specs.Texts.{front_until}
use Rattle.workload.proofs.generating.write_events.Given as goal

abbrev pub invariant-loop-place : goal.invariant-loop-place
invariant-loop-place g l = record {
  stands : StandsAt l.plan.seed l.plan.count l.place l.course l.world;
  held : (before : List ℕ) → g.K.Sink.held l.initial.output ≡ Some (before ++ front_until l.plan.seed l.plan.count 0) → g.K.Sink.held l.output ≡ Some (before ++ front_until l.plan.seed l.plan.count l.place);
  wrote : g.K.Sink.faults l.initial.output ≤ g.K.Sink.faults l.output;
}
