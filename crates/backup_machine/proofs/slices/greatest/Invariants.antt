-- So far this is the greatest version of the objects before.
use Rattle.std.proofs.Common.{◌≡◌, take}
use Rattle.backup_machine.specs.Slices.{greatest}
use Rattle.backup_machine.proofs.slices.greatest.Given as goal

abbrev pub invariant-loop-object : goal.invariant-loop-object
invariant-loop-object l = l.most ≡ greatest (take l.object-index l.kept)
