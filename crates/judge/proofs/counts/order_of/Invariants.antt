use Rattle.std.proofs.Common.{◌≡◌, take}
use Rattle.protocol.specs.History.{commit_in}
use Rattle.judge.proofs.Firsts.{firsts}
use Rattle.judge.proofs.counts.order_of.Given as goal

abbrev pub invariant-loop-note : goal.invariant-loop-note
invariant-loop-note l = l.txns.keys ≡ firsts commit_in (take l.note-index l.history)
