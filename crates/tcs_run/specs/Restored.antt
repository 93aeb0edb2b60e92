-- What the command `restore` does.
use Rattle.std.specs.Prelude.{◌≡◌, ◌⊎◌, ℕ, List, Option}
use Rattle.restore_core.specs.declared.stops.RestoreStop.{RestoreStop}
use Rattle.restore_core.specs.Files.{Answer, Restores, BadLine, answer_of}
use Rattle.restore_core.specs.Restores.{Finishes, Stopped}
use Rattle.tcs_run.specs.declared.status.Status.{Status}
use Rattle.tcs_run.specs.declared.status.Status.TheVariants as statuses
use Rattle.tcs_run.specs.Status.{status_of_restore}

-- the status that tells an answer, unless memory runs out
abbrev pub ToldBy : Status → Answer → Type 0
ToldBy status (Restores kept) = (status ≡ statuses.Ok) ⊎ (status ≡ statuses.OutOfMemory)
ToldBy status (BadLine line) = (status ≡ statuses.BadBackup line) ⊎ (status ≡ statuses.OutOfMemory)

-- The source had these bytes, and the sink held those before; this is what they have by now, and the status. `quiet` says
-- that neither counted a fault.
pub record Restored (bytes before : List ℕ) (left held : Option (List ℕ)) (quiet : Type 0) (status : Status) : Type 0 where
  -- With `Ok` the bytes are a backup file, they were read to their end, and the output took the text of a schedule. After the
  -- run of that schedule the one copy of the data has exactly the objects of the file, with their versions and values.
  pub whole : status ≡ statuses.Ok → Finishes bytes before left held
  -- With each other status: what was written by then, which is nothing before the input's end.
  pub stopped : (stop : RestoreStop) → status ≡ status_of_restore stop → Stopped bytes before left held stop
  -- Which status comes, where no fault is counted: that of the answer to the bytes.
  pub answered : quiet → ToldBy status (answer_of bytes)
