-- The trace of each run is judged correct.
use Rattle.std.proofs.Common.{◌≡◌, ◌<◌, ◌≤◌, ◌^◌, List, [], length, map, None, refl, ap, subst, ◌∙◌, arith}
use Rattle.std.specs.Prelude.{All}
use Rattle.std.specs.List.{flat_map}
use Rattle.tcs_terms.specs.declared.inputs.Event.{Event}
use Rattle.tcs_terms.specs.declared.inputs.Note.{Note}
use Rattle.tcs_terms.specs.Runs.{AreEventsOf}
use Rattle.tcs_terms.specs.Setups.{Deployment}
use Rattle.tcs_laws.specs.Certification.{Tests}
use Rattle.trace_text.specs.Lines.{IsStanding, line_text, printed, at_start}
use Rattle.trace_text.specs.Traces.{Trace, IsTrace, trace_lines, trace_items, at_end}
use Rattle.trace_text.proofs.TraceLaws.{trace_read}
use Rattle.protocol.specs.CorrectHistory.{IsCorrect}
use Rattle.protocol.specs.History.{order_of}
use Rattle.protocol_laws.specs.Promises.{world_of}
use Rattle.protocol_laws.proofs.PromisesOfRun.{run_keeps_promises}
use Rattle.judge.specs.Verdicts.{tests_of, counted, verdict_on}
use Rattle.replay_core.specs.Trace.{tests_of as tests_by, run_of, run_trace, trace}
use Rattle.trace_laws.proofs.TraceOf.{run_is_trace}
use Rattle.audit_core.specs.declared.limits.TheConstants.{MAX_LINE}
use Rattle.audit_core.specs.Texts.{Lines, lines_of}
use Rattle.audit_core.specs.Told.{Told, nothing_told, first_difference, and_last, verdict_told}
use Rattle.audit_core.specs.Audits.{Judged, answer_from, answer_of}
use Rattle.audit_laws.specs.Limits.{IsWithinLimits}
use Rattle.audit_core.proofs.Lines.{both}
use Rattle.audit_laws.proofs.Clears.{lawful, same_tests, cleared, no_difference}
use Rattle.audit_laws.proofs.Followed.{answer-read, read-no_feed}
use Rattle.audit_laws.proofs.Shows.{notes-shown}
use Rattle.audit_laws.proofs.Spread.{lines_printed, size-printed}
use Rattle.audit_laws.proofs.TellsAll.{told_by, trace-told}

starts : IsStanding at_start
starts = record { version = refl; shards = omega arith; events = omega arith; messages = omega arith }

-- the verdict on a trace is that on what it tells
trace-judged : (t : Trace) → IsTrace t → IsWithinLimits (flat_map printed (trace_lines t)) → answer_of (flat_map printed (trace_lines t)) ≡ Judged (verdict_told (told_by t))
trace-judged t is k =
    let read = trace_read t is in
    let same : lines_of (flat_map printed (trace_lines t)) ≡ both (map line_text (trace_lines t)) [] =
    lines_printed (trace_lines t) (read-no_feed at_start (map line_text (trace_lines t)) (trace_items t) (at_end t) starts read) in
    ap (λ (l : Lines). answer_from at_start nothing_told 0 0 l.whole l.rest) same
    ∙ answer-read at_start (map line_text (trace_lines t)) (trace_items t) (at_end t) nothing_told 0 0 read
    (subst (λ (l : Lines). All (λ line. length line ≤ MAX_LINE) l.whole) same k.short_lines)
    (omega (arith, size-printed (trace_lines t), k.short))
    (ap (λ (told : Told). told.ended) (trace-told t))
    ∙ ap (λ (told : Told). Judged (verdict_told told)) (trace-told t)

-- what a run tells is right
run-cleared : (d : Deployment) (es : List Event) → AreEventsOf d es → verdict_told (told_by (run_trace d es)) ≡ counted (world_of (run_of d es)).history
run-cleared d es a =
    let h : List Note = (world_of (run_of d es)).history in
    let correct : IsCorrect (tests_by d.rule) d.shards h = (run_keeps_promises (tests_by d.rule) d es (lawful d.rule) a).correct in
    ap (λ (ns : List Note). and_last (verdict_on (tests_of d.rule) d.shards ns) (first_difference (order_of h) (order_of ns))) (notes-shown (tests_by d.rule) d es)
    ∙ ap (λ o. and_last (verdict_on (tests_of d.rule) d.shards h) o) (no_difference (order_of h))
    ∙ ap (λ (tests : Tests). and_last (verdict_on tests d.shards h) None) (same_tests d.rule)
    ∙ ap (λ v. and_last v None) (cleared (tests_by d.rule) d.shards h correct)

pub own_trace-judged : (d : Deployment) (es : List Event) → AreEventsOf d es → length es < 2 ^ 64 → IsWithinLimits (trace d es)
    → answer_of (trace d es) ≡ Judged (counted (world_of (run_of d es)).history)
own_trace-judged d es a few within =
    trace-judged (run_trace d es) (run_is_trace d es a few) within ∙ ap Judged (run-cleared d es a)
