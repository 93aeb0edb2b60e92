use Rattle.std.proofs.Common.{◌≡◌, ◌++◌}
use Rattle.std.specs.List.{flat_map}
use Rattle.totals_core.specs.Holdings.{held_by}
use Rattle.totals_core.specs.Telling.{total_line}
use Rattle.totals_core.proofs.telling.put_totals.Given as goal

-- what is written, and what is to be, is all of it
abbrev pub invariant-loop-name : goal.invariant-loop-name
invariant-loop-name l =
    l.text.items ++ flat_map (total_line (held_by l.shards l.holdings)) l.name-iterator
    ≡ l.initial.text.items ++ flat_map (total_line (held_by l.shards l.holdings)) l.sums.entries
