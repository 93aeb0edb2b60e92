-- How an audit ends, by how its reading and its writing ended.
use Rattle.std.proofs.Common.{◌≡◌, ℕ, List, Option, Some, Ok, Err, refl, inl, inr}
use Rattle.tcs_io.specs.Bytes.{HoldsFront}
use Rattle.tcs_io.specs.Faults.{Rose}
use Rattle.tcs_io.specs.declared.writing.SinkStop.{SinkStop}
use Rattle.tcs_io.specs.declared.writing.SinkStop.TheVariants as sinks
use Rattle.judge.specs.declared.verdicts.Verdict.{Verdict}
use Rattle.audit_core.specs.declared.stops.AuditStop.{AuditStop}
use Rattle.audit_core.specs.declared.stops.AuditStop.TheVariants as stops
use Rattle.audit_core.specs.Audits.{Ends, Stopped, Stayed, Tells, answer_of, verdict_text}
use Rattle.audit_core.specs.Stops.{stop_of_sink}

-- reading stopped: nothing was written
pub stopped_reading : (bytes before : List ℕ) (left held : Option (List ℕ)) (stop : AuditStop) → Ends bytes left (Err stop)
    → (stop ≡ stops.WriteFault → ⊥) → held ≡ Some before → Stopped bytes before left held stop
stopped_reading bytes before left held (stops.BadTrace line) ends unwritten same = (ends, same)
stopped_reading bytes before left held stops.ReadFault ends unwritten same = same
stopped_reading bytes before left held stops.WriteFault ends unwritten same = absurd (unwritten refl)
stopped_reading bytes before left held stops.OutOfMemory ends unwritten same = inl same

pub tells_reading : (bytes : List ℕ) (left : Option (List ℕ)) (faults faults' : ℕ) (stop : AuditStop) → Ends bytes left (Err stop)
    → (stop ≡ stops.ReadFault → Rose faults faults') → (stop ≡ stops.WriteFault → ⊥) → Stayed faults faults' → Tells (answer_of bytes) (Err stop)
tells_reading bytes left faults faults' (stops.BadTrace line) ends fault unwritten calm = ends
tells_reading bytes left faults faults' stops.ReadFault ends fault unwritten calm = calm (fault refl)
tells_reading bytes left faults faults' stops.WriteFault ends fault unwritten calm = unwritten refl
tells_reading bytes left faults faults' stops.OutOfMemory ends fault unwritten calm = tt

-- writing stopped: a front of the line was written
pub stopped_writing : (bytes before : List ℕ) (left held : Option (List ℕ)) (verdict : Verdict) (stop : SinkStop) → Ends bytes left (Ok verdict)
    → HoldsFront before (verdict_text verdict) held → Stopped bytes before left held (stop_of_sink stop)
stopped_writing bytes before left held verdict sinks.Failed ends front = record { verdict = verdict; judged = ends.0; at_end = ends.1; front = front }
stopped_writing bytes before left held verdict sinks.OutOfMemory ends front =
    inr (record { verdict = verdict; judged = ends.0; at_end = ends.1; front = front })

pub tells_writing : (bytes : List ℕ) (faults faults' : ℕ) (stop : SinkStop) → (stop ≡ sinks.Failed → Rose faults faults') → Stayed faults faults'
    → Tells (answer_of bytes) (Err (stop_of_sink stop))
tells_writing bytes faults faults' sinks.Failed fault calm = calm (fault refl)
tells_writing bytes faults faults' sinks.OutOfMemory fault calm = tt
