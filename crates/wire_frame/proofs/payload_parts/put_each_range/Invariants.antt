use Rattle.std.proofs.Common.{◌≡◌, ◌++◌, take}
use Rattle.std.specs.List.{flat_map}
use Rattle.wire_frame.specs.Spelling.{spell_range}
use Rattle.wire_frame.proofs.payload_parts.put_each_range.Given as goal

abbrev pub invariant-loop-range : goal.invariant-loop-range
invariant-loop-range l = l.out.items ≡ l.initial.out.items ++ flat_map spell_range (take l.range-index l.ranges)
