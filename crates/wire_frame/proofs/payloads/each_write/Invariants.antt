use Rattle.std.proofs.Common.{◌≡◌, ◌-◌, []}
use Rattle.wire_frame.specs.Reading.{each_at}
use Rattle.wire_frame.specs.Parts.{write_at}
use Rattle.wire_frame.proofs.Loop.{with_front}
use Rattle.wire_frame.proofs.payloads.each_write.Given as goal

abbrev pub invariant-loop : goal.invariant-loop
invariant-loop l = with_front l.writes.items (each_at (write_at l.reads) (λ last w. w.name) (l.count - l.counter) l.last l.rest) ≡ each_at (write_at l.reads) (λ last w. w.name) l.count [] l.bytes
