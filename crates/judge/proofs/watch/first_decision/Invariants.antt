use Rattle.std.proofs.Common.{◌≡◌, take, drop}
use Rattle.judge.specs.Verdicts.{first_failing}
use Rattle.judge.proofs.Failing.{failing_from}
use Rattle.judge.proofs.watch.first_decision.Given as goal

abbrev pub invariant-loop-note : goal.invariant-loop-note
invariant-loop-note g l = record {
  stands : g.W.Watch.StandsFor l.watch (take l.note-index l.history);
  found : first_failing (g.W.Watch.test l.shards) l.history
      ≡ failing_from (g.W.Watch.test l.shards) (take l.note-index l.history) (drop l.note-index l.history);
}
