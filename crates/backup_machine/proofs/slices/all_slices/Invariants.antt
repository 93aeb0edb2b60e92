-- The payloads so far, and those of what is left, are all; what is left are objects of the range that is left.
use Rattle.std.proofs.Common.{◌≡◌, suc, ◌+◌, ◌-◌, ◌≤◌, ◌++◌, length}
use Rattle.backup_machine.specs.Objects.{AreOf}
use Rattle.backup_machine.specs.Slices.{slices, all_slices}
use Rattle.backup_machine.proofs.slices.all_slices.Given as goal

abbrev pub invariant-loop-rest : goal.invariant-loop-rest
invariant-loop-rest l = record {
  are : AreOf l.from l.upto l.rest;
  fewer : length l.payloads.items + length l.rest ≤ length l.kept;
  all : l.payloads.items ++ slices (suc (length l.kept - length l.payloads.items)) l.width l.from l.upto l.rest ≡ all_slices l.width l.fn.from l.upto l.kept;
}

abbrev pub decreases-loop-rest : goal.decreases-loop-rest
decreases-loop-rest l = length l.rest
