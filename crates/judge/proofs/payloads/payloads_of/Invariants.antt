use Rattle.std.proofs.Common.{take}
use Rattle.judge.specs.Watching.{ArePayloads}
use Rattle.judge.proofs.payloads.payloads_of.Given as goal

abbrev pub invariant-loop-note : goal.invariant-loop-note
invariant-loop-note l = ArePayloads l.payloads.entries (take l.note-index l.history)
