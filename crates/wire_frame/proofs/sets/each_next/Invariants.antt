use Rattle.std.proofs.Common.{◌-◌}
use Rattle.wire_frame.specs.Reading.{each_at}
use Rattle.wire_frame.specs.Parts.{next_at}
use Rattle.wire_frame.proofs.Loop.{Walks}
use Rattle.wire_frame.proofs.sets.each_next.Given as goal

abbrev pub invariant-loop : goal.invariant-loop
invariant-loop l = Walks l.counter l.bytes l.rest (each_at (next_at l.most) (λ last n. n) (l.count - l.counter) l.last l.rest) (each_at (next_at l.most) (λ last n. n) l.count 0 l.bytes)
