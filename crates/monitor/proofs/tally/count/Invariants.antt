-- So far the messages before this one were counted.
use Rattle.std.proofs.Common.{◌≡◌, take}
use Rattle.std.specs.Prelude.{fold}
use Rattle.monitor.specs.Tally.{owes}
use Rattle.monitor.proofs.tally.count.Given as goal

abbrev pub invariant-loop-letter : goal.invariant-loop-letter
invariant-loop-letter l = l.counts ≡ fold owes l.initial.counts (take l.letter-index l.sent)
