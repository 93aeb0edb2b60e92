-- So far each payload before this one has no outcome.
use Rattle.std.proofs.Common.{◌≡◌, map, take}
use Rattle.backup_machine.specs.Backups.{no_outcome}
use Rattle.backup_machine.proofs.outcomes.none_yet.Given as goal

abbrev pub invariant-loop-payload : goal.invariant-loop-payload
invariant-loop-payload l = l.list.items ≡ map no_outcome (take l._payload-index l.payloads)
