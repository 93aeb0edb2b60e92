use Rattle.std.proofs.Common.{◌≡◌, ◌++◌, take}
use Rattle.std.specs.List.{flat_map}
use Rattle.wire_frame.specs.Spelling.{spell_write}
use Rattle.wire_frame.proofs.payload_parts.put_writes.Given as goal

abbrev pub invariant-loop-write : goal.invariant-loop-write
invariant-loop-write l = l.out.items ≡ l.initial.out.items ++ flat_map spell_write (take l.write-index l.writes)
