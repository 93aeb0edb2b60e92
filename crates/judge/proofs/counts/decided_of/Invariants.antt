use Rattle.std.proofs.Common.{◌≡◌, take}
use Rattle.judge.specs.Verdicts.{decided_in}
use Rattle.judge.proofs.Firsts.{firsts}
use Rattle.judge.proofs.counts.decided_of.Given as goal

abbrev pub invariant-loop-note : goal.invariant-loop-note
invariant-loop-note l = l.txns.keys ≡ firsts decided_in (take l.note-index l.history)
