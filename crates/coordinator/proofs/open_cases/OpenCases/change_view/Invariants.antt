use Rattle.std.proofs.Common.{◌≡◌, ◌++◌, take, length}
use Rattle.std.specs.Prelude.{flat_map}
use Rattle.coordinator.specs.OpenCases.{asked_at, asks_at}
use Rattle.coordinator.proofs.Asking.{changed_until}
use Rattle.coordinator.proofs.open_cases.OpenCases.change_view.Given as goal

abbrev pub invariant-loop-at : goal.invariant-loop-at
invariant-loop-at l =
    (l.self-inside.slots.items ≡ changed_until (asked_at l.config.shard) l.at l.initial.self-inside.slots.items)
    × (l.self-inside.places.entries ≡ l.initial.self-inside.places.entries)
    × (l.out.items ≡ l.initial.out.items ++ flat_map (asks_at (length l.views) l.config) (take l.at l.initial.self-inside.slots.items))
