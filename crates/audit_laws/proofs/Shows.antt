-- The notes that the trace of a run shows are its history.
use Rattle.std.proofs.Common.{◌≡◌, ℕ, ◌+◌, List, [], ◌∷◌, ◌++◌, append-nil, append_assoc, fold, nat_lt, sym, ap, ◌∙◌}
use Rattle.std.proofs.lemmas.Grind.{flat_map-append}
use Rattle.tcs_terms.specs.declared.inputs.Event.{Event}
use Rattle.tcs_terms.specs.declared.inputs.Note.{Note}
use Rattle.tcs_terms.specs.Setups.{Deployment}
use Rattle.tcs_laws.specs.Certification.{Tests}
use Rattle.trace_text.specs.Traces.{Happening}
use Rattle.protocol.specs.Limit.{Progress, Step, frame_bytes, frame_limit, limited_step, limited_run}
use Rattle.protocol.specs.Limit.Progress.{Live, Ended}
use Rattle.protocol.specs.World.{Happening as Came, first_world, world_step}
use Rattle.protocol_laws.specs.Promises.{world_of}
use Rattle.protocol_laws.proofs.Guards.{by_guard}
use Rattle.protocol_laws.proofs.RunsOn.{event-adds}
use Rattle.replay_core.specs.Trace.{shown_by, happenings}
use Rattle.audit_laws.proofs.TellsAll.{notes_of}

notes-joined : (hs gs : List Happening) → notes_of (hs ++ gs) ≡ notes_of hs ++ notes_of gs
notes-joined hs gs = flat_map-append (λ (h : Happening). h.notes) hs gs

-- those of one event stand behind those before
step-notes : (tests : Tests) (version : ℕ) (p : Progress) (e : Event)
    → (world_of p).history ++ notes_of (shown_by (limited_step tests version p e).answer) ≡ (world_of (limited_step tests version p e).after).history
unfolding limited_step
step-notes tests version (Live w count bytes) e =
    let h : Came = world_step tests version w e in
    by_guard {A = Step} (λ s. w.history ++ notes_of (shown_by s.answer) ≡ (world_of s.after).history) (nat_lt frame_limit (bytes + frame_bytes h.sent))
    (λ passes. append-nil w.history)
    (λ goes. ap (λ (ns : List Note). w.history ++ ns) (append-nil h.notes) ∙ sym (event-adds tests version w e).history)
step-notes tests version (Ended w count bytes) e = append-nil w.history

notes-from : (tests : Tests) (version : ℕ) (p : Progress) (es : List Event)
    → (world_of p).history ++ notes_of (happenings tests version p es) ≡ (world_of (fold (λ q e. (limited_step tests version q e).after) p es)).history
unfolding happenings
notes-from tests version p [] = append-nil (world_of p).history
notes-from tests version p (e ∷ es) =
    let s : Step = limited_step tests version p e in
    ap (λ (ns : List Note). (world_of p).history ++ ns) (notes-joined (shown_by s.answer) (happenings tests version s.after es))
    ∙ sym (append_assoc (world_of p).history (notes_of (shown_by s.answer)) (notes_of (happenings tests version s.after es)))
    ∙ ap (λ (ns : List Note). ns ++ notes_of (happenings tests version s.after es)) (step-notes tests version p e)
    ∙ notes-from tests version s.after es

pub notes-shown : (tests : Tests) (setup : Deployment) (es : List Event)
    → notes_of (happenings tests setup.version (Live (first_world setup) 0 0) es) ≡ (world_of (limited_run tests setup es)).history
unfolding limited_run first_world
notes-shown tests setup es = notes-from tests setup.version (Live (first_world setup) 0 0) es
