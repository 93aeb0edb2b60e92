-- So far the messages before this one were read.
use Rattle.std.proofs.Common.{◌≡◌, take}
use Rattle.std.specs.Prelude.{fold}
use Rattle.monitor.specs.Watch.{announced}
use Rattle.monitor.proofs.monitor.take_announced.Given as goal

abbrev pub invariant-loop-letter : goal.invariant-loop-letter
invariant-loop-letter l = l.configs ≡ fold (λ configs letter. announced configs letter.1.message) l.initial.configs (take l.letter-index l.sent)
