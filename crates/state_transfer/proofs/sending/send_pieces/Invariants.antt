use Rattle.std.proofs.Common.{◌≡◌, ◌++◌, map}
use Rattle.std.specs.List.{range_with_len}
use Rattle.state_transfer.specs.Sent.{piece_to}
use Rattle.state_transfer.proofs.sending.send_pieces.Given as goal

abbrev pub invariant-loop-before : goal.invariant-loop-before
invariant-loop-before l = l.out.items ≡ l.initial.out.items ++ map (piece_to l.config l.rows l.node) (range_with_len 1 l.before)
