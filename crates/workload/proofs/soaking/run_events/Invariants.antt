use Rattle.workload.specs.Standing.{StandsAt}
use Rattle.workload.proofs.soaking.run_events.Given as goal

abbrev pub invariant-loop-place : goal.invariant-loop-place
invariant-loop-place g l = StandsAt l.plan.seed l.plan.count l.place l.course l.world
