use Rattle.std.proofs.Common.{◌≡◌, ◌++◌, drop}
use Rattle.restore_laws.specs.Schedules.{events_from, restored_events}
use Rattle.restore_core.specs.Printed.{events_text}
use Rattle.restore_core.proofs.printing.put_objects.Given as goal

abbrev pub invariant-objects : goal.invariant-objects
invariant-objects l = record {
  counted : l.before ≡ l.object-index;
  written : l.out.items ++ events_text (events_from l.before (drop l.object-index l.kept)) ≡ l.fn.out.items ++ events_text (restored_events l.kept);
}
