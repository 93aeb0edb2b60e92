use Rattle.std.proofs.Common.{◌≡◌, ◌++◌}
use Rattle.protocol_laws.specs.Promises.{world_of}
use Rattle.replay_core.proofs.Messages.{lines_to}
use Rattle.replay_core.proofs.stepping.print_messages.Given as goal

abbrev pub invariant-loop-number : goal.invariant-loop-number
invariant-loop-number g l = l.text.items ≡ l.initial.text.items ++ lines_to l.first l.number (world_of (g.R.Run.progress l.run)).messages
