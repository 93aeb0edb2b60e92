use Rattle.std.proofs.Common.{◌≡◌, ◌++◌}
use Rattle.std.specs.Vec.Iter.{into_iter_items}
use Rattle.coordinator.specs.OpenCases.{taken}
use Rattle.coordinator.proofs.open_cases.OpenCases.moved_together.Given as goal

abbrev pub invariant-loop-slot : goal.invariant-loop-slot
invariant-loop-slot l =
    (goal.iterator-loop-slot).can_next l.slot-iterator ×
    (goal.iterator-loop-slot).is_finite l.slot-iterator ×
    (l.together ++ taken (into_iter_items l.slot-iterator) ≡ l.fn.self)
