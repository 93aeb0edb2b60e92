-- The schedule of two objects, worked out by hand.
use Rattle.std.specs.Prelude.{◌≡◌, List, [], ◌∷◌, codes}
use Rattle.protocol.specs.Worked.RestoredSchedule as worked
use Rattle.backup_machine.specs.declared.objects.Kept.{Kept}
use Rattle.restore_laws.specs.Schedules.{restored_setup, restored_events}

abbrev pub two_kept : List Kept
two_kept = record { name = codes "a"; version = 1; value = 5 ∷ [] } ∷ record { name = codes "b"; version = 1; value = 6 ∷ [] } ∷ []

-- its setup and its events are those of the worked run, which shows its history and its order
pub record IsAsWorked : Type 0 where
  pub setup : restored_setup ≡ worked.setup
  pub events : restored_events two_kept ≡ worked.events
