use Rattle.std.proofs.Common.{◌≡◌, ◌-◌, []}
use Rattle.wire_frame.specs.Reading.{each_at}
use Rattle.wire_frame.specs.Parts.{range_at}
use Rattle.wire_frame.proofs.Loop.{with_front}
use Rattle.wire_frame.proofs.payloads.each_range.Given as goal

abbrev pub invariant-loop : goal.invariant-loop
invariant-loop l = with_front l.ranges.items (each_at (range_at l.version) (λ last q. q.upto) (l.count - l.counter) l.last l.rest) ≡ each_at (range_at l.version) (λ last q. q.upto) l.count [] l.bytes
