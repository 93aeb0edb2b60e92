use Rattle.std.proofs.Common.{◌≡◌, ◌-◌, []}
use Rattle.wire_frame.specs.Reading.{each_at}
use Rattle.wire_frame.specs.Parts.{read_at}
use Rattle.wire_frame.proofs.Loop.{with_front}
use Rattle.wire_frame.proofs.payloads.reads_of.Given as goal

abbrev pub invariant-loop : goal.invariant-loop
invariant-loop l = with_front l.reads.items (each_at (read_at l.version) (λ last r. r.name) (l.count - l.counter) l.last l.rest) ≡ each_at (read_at l.version) (λ last r. r.name) l.count [] l.bytes
