use Rattle.std.proofs.Common.{◌≡◌, take}
use Rattle.workload.specs.Counts.{begun_in}
use Rattle.judge.proofs.Firsts.{firsts}
use Rattle.workload.proofs.counts.begun_of.Given as goal

abbrev pub invariant-loop-note : goal.invariant-loop-note
invariant-loop-note l = l.txns.keys ≡ firsts begun_in (take l.note-index l.history)
