-- A value that is taken leaves a backup.
use Rattle.std.proofs.Common.{arith, rules}
use Rattle.backup_machine.proofs.Keeping.{value_leaves_a_backup}
use Rattle.backup_machine.proofs.backup.Backup.on_value.Goals.{else-version-gt0-via-then-version-gt0+else-len-ge-MAX_OBJECTS, else-version-gt0-via-else-version-gt0}
use Rattle.backup_machine.proofs.backup.Backup.on_value.Goals as goal

pub invariant_of-self-2 : goal.invariant_of-self-2
invariant_of-self-2 c =
    value_leaves_a_backup (record {
      from = c.self.inside.from;
      upto = c.self.inside.upto;
      width = c.self.inside.width;
      last = c.self.inside.last;
      kept = c.self.inside.kept.items;
      waiting = c.self.inside.waiting;
      outcomes = c.self.inside.outcomes.items;
    }) (record { name = c.args.name; version = c.args.version; value = c.args.value }) c.again-last.result c.keep.new.kept.items c.self.invariant (search rules) (search rules) (omega arith)
    (λ some. elim c.else-version-gt0.branch [
      | else-version-gt0-via-then-version-gt0+else-len-ge-MAX_OBJECTS w ↦ omega arith
      | else-version-gt0-via-else-version-gt0 w ↦ absurd (omega arith)
    ])
    c.again-last.ensures c.in_ok-keep.ensures.ok
