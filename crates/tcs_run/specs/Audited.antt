-- What the command `audit` does.
use Rattle.std.specs.Prelude.{◌≡◌, ◌⊎◌, ◌<◌, ◌^◌, ℕ, List, length, Option}
use Rattle.tcs_terms.specs.declared.inputs.Event.{Event}
use Rattle.tcs_terms.specs.Runs.{AreEventsOf}
use Rattle.tcs_terms.specs.Setups.{Deployment}
use Rattle.judge.specs.declared.verdicts.Verdict.{Verdict}
use Rattle.audit_core.specs.declared.stops.AuditStop.{AuditStop}
use Rattle.audit_core.specs.Audits.{Finishes, Stopped, answer_of}
use Rattle.audit_laws.specs.Limits.{IsWithinLimits}
use Rattle.replay_core.specs.Trace.{trace}
use Rattle.tcs_run.specs.declared.status.Status.{Status}
use Rattle.tcs_run.specs.declared.status.Status.TheVariants as statuses
use Rattle.tcs_run.specs.Status.{status_of_verdict, status_of_answer, status_of_audit}

-- this verdict has this status, and all that belongs to it was done
pub record Judges (bytes before : List ℕ) (left held : Option (List ℕ)) (status : Status) : Type 0 where
  pub verdict : Verdict
  pub told : status ≡ status_of_verdict verdict
  pub finished : Finishes bytes before left held verdict

-- The source had these bytes, and the sink held those before; this is what they have by now, and the status. `quiet` says
-- that neither counted a fault.
pub record Audited (bytes before : List ℕ) (left held : Option (List ℕ)) (quiet : Type 0) (status : Status) : Type 0 where
  -- With `Ok` and with `Incorrect` the bytes are a trace, they were read to their end, and the output took the line of the
  -- verdict on what it tells: that it is correct with `Ok`, and with `Incorrect` the first clause that fails.
  pub judged : (status ≡ statuses.Ok) ⊎ (status ≡ statuses.Incorrect) → Judges bytes before left held status
  -- With each other status: which line is the first that may not stand in a trace, and what was read and written by then.
  pub broken_off : (stop : AuditStop) → status ≡ status_of_audit stop → Stopped bytes before left held stop
  -- Which status comes, where no fault is counted and memory does not run out: that of the answer to the bytes.
  pub answered : quiet → (status ≡ status_of_answer (answer_of bytes)) ⊎ (status ≡ statuses.OutOfMemory)
  -- Where the bytes are the trace of a run of a setup, as `replay` writes it, and keep within the limits on a line and on a
  -- trace, it is correct.
  pub own : quiet → (d : Deployment) (es : List Event) → AreEventsOf d es → length es < 2 ^ 64 → bytes ≡ trace d es → IsWithinLimits bytes
      → (status ≡ statuses.Ok) ⊎ (status ≡ statuses.OutOfMemory)
