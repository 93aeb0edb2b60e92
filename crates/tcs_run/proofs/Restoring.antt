-- The statuses that answers to a backup file are told by.
use Rattle.std.proofs.Common.{Err, inl, inr, refl, sym, subst}
use Rattle.restore_core.specs.declared.stops.RestoreStop.{RestoreStop}
use Rattle.restore_core.specs.declared.stops.RestoreStop.TheVariants.{BadBackup, ReadFault, WriteFault, OutOfMemory}
use Rattle.restore_core.specs.Files.{Answer, Restores, BadLine}
use Rattle.restore_core.specs.Restores.{Tells}
use Rattle.tcs_run.specs.declared.status.Status.TheVariants as statuses
use Rattle.tcs_run.specs.Restored.{ToldBy}
use Rattle.tcs_run.specs.Status.{status_of_restore}

memory_told : (answer : Answer) → ToldBy statuses.OutOfMemory answer
memory_told (Restores kept) = inr refl
memory_told (BadLine line) = inr refl

pub stop_told_by : (answer : Answer) (stop : RestoreStop) → Tells answer (Err stop) → ToldBy (status_of_restore stop) answer
stop_told_by answer (BadBackup line) is = subst (ToldBy (statuses.BadBackup line)) (sym is) (inl refl)
stop_told_by answer ReadFault is = absurd is
stop_told_by answer WriteFault is = absurd is
stop_told_by answer OutOfMemory is = memory_told answer
