use Rattle.std.proofs.Common.{◌≡◌, ◌++◌, take}
use Rattle.std.specs.Prelude.{flat_map}
use Rattle.coordinator.specs.OpenCases.{sends_at}
use Rattle.coordinator.proofs.open_cases.OpenCases.resend.Given as goal

abbrev pub invariant-loop-slot : goal.invariant-loop-slot
invariant-loop-slot l = l.out.items ≡ l.initial.out.items ++ flat_map (sends_at l.views) (take l.slot-index l.slot-items)
