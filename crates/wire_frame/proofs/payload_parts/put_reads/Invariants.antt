use Rattle.std.proofs.Common.{◌≡◌, ◌++◌, take}
use Rattle.std.specs.List.{flat_map}
use Rattle.wire_frame.specs.Spelling.{spell_read}
use Rattle.wire_frame.proofs.payload_parts.put_reads.Given as goal

abbrev pub invariant-loop-read : goal.invariant-loop-read
invariant-loop-read l = l.out.items ≡ l.initial.out.items ++ flat_map spell_read (take l.read-index l.reads)
