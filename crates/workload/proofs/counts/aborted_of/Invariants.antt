use Rattle.std.proofs.Common.{◌≡◌, take}
use Rattle.judge.specs.Verdicts.{abort_in}
use Rattle.judge.proofs.Firsts.{firsts}
use Rattle.workload.proofs.counts.aborted_of.Given as goal

abbrev pub invariant-loop-note : goal.invariant-loop-note
invariant-loop-note l = l.txns.keys ≡ firsts abort_in (take l.note-index l.history)
