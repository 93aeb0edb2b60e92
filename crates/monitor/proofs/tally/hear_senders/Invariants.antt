-- So far the senders before this one were heard of.
use Rattle.std.proofs.Common.{◌≡◌, take}
use Rattle.monitor.specs.Tally.{heard}
use Rattle.monitor.proofs.tally.hear_senders.Given as goal

abbrev pub invariant-loop-letter : goal.invariant-loop-letter
invariant-loop-letter l = l.counts ≡ heard l.initial.counts (take l.letter-index l.sent)
