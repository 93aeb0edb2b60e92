-- The status of an audit is that of the answer to the bytes.
use Rattle.std.proofs.Common.{◌≡◌, ◌⊎◌, inl, inr, ℕ, ◌<◌, ◌^◌, List, length, Err, ◌∙◌, ap, sym, subst}
use Rattle.tcs_terms.specs.declared.inputs.Event.{Event}
use Rattle.tcs_terms.specs.Runs.{AreEventsOf}
use Rattle.tcs_terms.specs.Setups.{Deployment}
use Rattle.audit_core.specs.declared.stops.AuditStop.{AuditStop}
use Rattle.audit_core.specs.declared.stops.AuditStop.TheVariants as audits
use Rattle.audit_core.specs.Audits.{Tells, answer_of}
use Rattle.audit_laws.specs.Limits.{IsWithinLimits}
use Rattle.audit_laws.proofs.Own.{own_trace-judged}
use Rattle.replay_core.specs.Trace.{trace}
use Rattle.tcs_run.specs.declared.status.Status.{Status}
use Rattle.tcs_run.specs.declared.status.Status.TheVariants as statuses
use Rattle.tcs_run.specs.Status.{status_of_answer, status_of_audit}

pub answered_by : (bytes : List ℕ) (status : Status) (stop : AuditStop) → status ≡ status_of_audit stop → Tells (answer_of bytes) (Err stop)
    → (status ≡ status_of_answer (answer_of bytes)) ⊎ (status ≡ statuses.OutOfMemory)
answered_by bytes status (audits.BadTrace line) is tells = inl (is ∙ ap status_of_answer (sym tells))
answered_by bytes status audits.ReadFault is tells = absurd tells
answered_by bytes status audits.WriteFault is tells = absurd tells
answered_by bytes status audits.OutOfMemory is tells = inr is

-- the trace of a run is correct
pub own_is_correct : (bytes : List ℕ) (status : Status) (d : Deployment) (es : List Event) → AreEventsOf d es → length es < 2 ^ 64 → bytes ≡ trace d es → IsWithinLimits bytes
    → (status ≡ status_of_answer (answer_of bytes)) ⊎ (status ≡ statuses.OutOfMemory) → (status ≡ statuses.Ok) ⊎ (status ≡ statuses.OutOfMemory)
own_is_correct bytes status d es events few same within (inl is) =
    inl (is ∙ ap status_of_answer (ap answer_of same ∙ own_trace-judged d es events few (subst IsWithinLimits same within)))
own_is_correct bytes status d es events few same within (inr memory) = inr memory
