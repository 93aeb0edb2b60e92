use Rattle.std.proofs.Common.{◌≡◌, ◌++◌}
use Rattle.state_transfer.proofs.kept_pieces.push_rows.Given as goal

abbrev pub invariant-loop-row : goal.invariant-loop-row
invariant-loop-row l = l.rows.items ≡ l.initial.rows.items ++ l.yielded
