-- How a restore ends, by how its reading and its writing ended.
use Rattle.std.proofs.Common.{◌≡◌, ℕ, List, [], Option, Some, Err, refl, sym, subst, inl, inr}
use Rattle.tcs_io.specs.Bytes.{HoldsFront}
use Rattle.tcs_io.specs.Faults.{Rose}
use Rattle.tcs_io.specs.declared.writing.SinkStop.{SinkStop}
use Rattle.tcs_io.specs.declared.writing.SinkStop.TheVariants as sinks
use Rattle.schedule_text.specs.Bytes.{IsText}
use Rattle.schedule_text.specs.Text.{schedule_text}
use Rattle.backup_machine.specs.declared.objects.Kept.{Kept}
use Rattle.restore_laws.specs.Schedules.{restored_events, restored_setup}
use Rattle.restore_laws.proofs.Restores.{restores}
use Rattle.restore_core.specs.declared.stops.RestoreStop.{RestoreStop}
use Rattle.restore_core.specs.declared.stops.RestoreStop.TheVariants as stops
use Rattle.restore_core.specs.Files.{AreRestored, BadLine, Restores, answer_of}
use Rattle.restore_core.specs.Restores.{IsPutBack, Stopped, Stayed, Tells}
use Rattle.restore_core.specs.Stops.{stop_of_sink}
use Rattle.restore_core.proofs.BadLines.{first_bad}
use Rattle.restore_core.proofs.Files.{answers_file}
use Rattle.restore_core.proofs.Schedules.{is_text}

-- reading stopped: nothing was written
pub stopped_reading : (bytes before : List ℕ) (left held : Option (List ℕ)) (stop : RestoreStop) → ((line : ℕ) → stop ≡ stops.BadBackup line → answer_of bytes ≡ BadLine line)
    → (stop ≡ stops.WriteFault → ⊥) → held ≡ Some before → Stopped bytes before left held stop
stopped_reading bytes before left held (stops.BadBackup line) bad unwritten same = (first_bad bytes line (bad line refl), same)
stopped_reading bytes before left held stops.ReadFault bad unwritten same = same
stopped_reading bytes before left held stops.WriteFault bad unwritten same = absurd (unwritten refl)
stopped_reading bytes before left held stops.OutOfMemory bad unwritten same = inl same

pub tells_reading : (bytes : List ℕ) (faults faults' : ℕ) (stop : RestoreStop) → ((line : ℕ) → stop ≡ stops.BadBackup line → answer_of bytes ≡ BadLine line)
    → (stop ≡ stops.ReadFault → Rose faults faults') → (stop ≡ stops.WriteFault → ⊥) → Stayed faults faults' → Tells (answer_of bytes) (Err stop)
tells_reading bytes faults faults' (stops.BadBackup line) bad fault unwritten calm = bad line refl
tells_reading bytes faults faults' stops.ReadFault bad fault unwritten calm = calm (fault refl)
tells_reading bytes faults faults' stops.WriteFault bad fault unwritten calm = unwritten refl
tells_reading bytes faults faults' stops.OutOfMemory bad fault unwritten calm = tt

-- writing stopped: a front of the text was written
pub stopped_writing : (bytes before : List ℕ) (left held : Option (List ℕ)) (kept : List Kept) (text : List ℕ) (stop : SinkStop) → IsPutBack bytes left kept text
    → HoldsFront before text held → Stopped bytes before left held (stop_of_sink stop)
stopped_writing bytes before left held kept text sinks.Failed back front = record { kept = kept; text = text; put_back = back; front = front }
stopped_writing bytes before left held kept text sinks.OutOfMemory back front = inr (record { kept = kept; text = text; put_back = back; front = front })

pub tells_writing : (bytes : List ℕ) (faults faults' : ℕ) (stop : SinkStop) → (stop ≡ sinks.Failed → Rose faults faults') → Stayed faults faults'
    → Tells (answer_of bytes) (Err (stop_of_sink stop))
tells_writing bytes faults faults' sinks.Failed fault calm = calm (fault refl)
tells_writing bytes faults faults' sinks.OutOfMemory fault calm = tt

-- all was read, and the text is that of the schedule that puts the objects back
pub put_back : (bytes : List ℕ) (left : Option (List ℕ)) (kept : List Kept) (text : List ℕ) → answer_of bytes ≡ Restores kept → left ≡ Some [] → AreRestored kept
    → text ≡ schedule_text restored_setup (restored_events kept) → IsPutBack bytes left kept text
put_back bytes left kept text answer ended are is = record {
  file = answers_file bytes kept answer;
  at_end = ended;
  schedule = subst (λ (t : List ℕ). IsText t restored_setup (restored_events kept)) (sym is) (is_text kept are);
  restored = restores kept are.can_be;
}
