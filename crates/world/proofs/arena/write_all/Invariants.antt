use Rattle.std.proofs.Common.{◌≤◌, length, take}
use Rattle.tcs_terms.specs.Appends.{Begins}
use Rattle.protocol.specs.Limit.{frame_limit}
use Rattle.world.specs.Writing.{Grown}
use Rattle.world.proofs.arena.write_all.Given as goal

abbrev pub invariant-loop-sent : goal.invariant-loop-sent
invariant-loop-sent l = record {
  grown : Grown l.from l.initial.bytes.items l.initial.letters.items (take l.sent-index l.sends) l.sum l.bytes.items l.letters.items;
  small : length l.bytes.items ≤ frame_limit;
  bytes_front : Begins l.initial.bytes.items l.bytes.items;
  letters_front : Begins l.initial.letters.items l.letters.items;
}
