-- So far the reads of the objects before this one are listed.
use Rattle.std.proofs.Common.{◌≡◌, map, take}
use Rattle.std.specs.Prelude.{All}
use Rattle.tcs_terms.specs.Payloads.{IsReadPart}
use Rattle.backup_machine.specs.Slices.{read_of}
use Rattle.backup_machine.proofs.slices.reads.Given as goal

abbrev pub invariant-loop-object : goal.invariant-loop-object
invariant-loop-object l = record {
  copied : l.list.items ≡ map read_of (take l.object-index l.kept);
  are : All IsReadPart l.list.items;
}
