-- What `restore` answers, and what it has read and written by then.
use Rattle.std.specs.Prelude.{◌≡◌, ◌⊎◌, ℕ, List, [], ◌++◌, Option, Some, Result, Ok, Err}
use Rattle.tcs_io.specs.Bytes.{HoldsFront}
use Rattle.tcs_io.specs.Faults.{Rose}
use Rattle.schedule_text.specs.Bytes.{IsText}
use Rattle.backup_machine.specs.declared.objects.Kept.{Kept}
use Rattle.restore_laws.specs.Restored.{IsRestored}
use Rattle.restore_laws.specs.Schedules.{restored_setup, restored_events}
use Rattle.restore_core.specs.declared.stops.RestoreStop.{RestoreStop}
use Rattle.restore_core.specs.declared.stops.RestoreStop.TheVariants as stops
use Rattle.restore_core.specs.Files.{IsFile, IsFirstBad, Answer, Restores, BadLine}

-- The bytes are a file with these objects, and all of them were read; the text is that of the schedule that puts the objects
-- back; and after the run of that schedule, by the definition of a run, the one copy of the data has exactly these objects.
pub record IsPutBack (bytes : List ℕ) (left : Option (List ℕ)) (kept : List Kept) (text : List ℕ) : Type 0 where
  pub file : IsFile bytes kept
  pub at_end : left ≡ Some []
  pub schedule : IsText text restored_setup (restored_events kept)
  pub restored : IsRestored kept

-- Ok: the sink took the whole text.
pub record Finishes (bytes before : List ℕ) (left held : Option (List ℕ)) : Type 0 where
  pub kept : List Kept
  pub text : List ℕ
  pub put_back : IsPutBack bytes left kept text
  pub written : held ≡ Some (before ++ text)

-- a front of the text was written, but not all of it
pub record StopsWithin (bytes before : List ℕ) (left held : Option (List ℕ)) : Type 0 where
  pub kept : List Kept
  pub text : List ℕ
  pub put_back : IsPutBack bytes left kept text
  pub front : HoldsFront before text held

-- What each stop says of the bytes, and of what was written: nothing, until the whole text is there.
abbrev pub Stopped : (bytes before : List ℕ) → (left held : Option (List ℕ)) → RestoreStop → Type 0
Stopped bytes before left held (stops.BadBackup line) = IsFirstBad bytes line × (held ≡ Some before)
Stopped bytes before left held stops.ReadFault = held ≡ Some before
Stopped bytes before left held stops.WriteFault = StopsWithin bytes before left held
Stopped bytes before left held stops.OutOfMemory = (held ≡ Some before) ⊎ StopsWithin bytes before left held

-- ---- which answer comes

-- no fault was counted
abbrev pub Stayed : ℕ → ℕ → Type 0
Stayed before after = Rose before after → ⊥

-- this is the answer, unless memory ran out
abbrev pub Tells : Answer → Result Unit RestoreStop → Type 0
Tells answer (Ok done) = (kept : List Kept) × (answer ≡ Restores kept)
Tells answer (Err (stops.BadBackup line)) = answer ≡ BadLine line
Tells answer (Err stops.ReadFault) = ⊥
Tells answer (Err stops.WriteFault) = ⊥
Tells answer (Err stops.OutOfMemory) = Unit {0}
