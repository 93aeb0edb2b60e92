-- What each event of a run shows may stand in its trace.
use Rattle.std.proofs.Common.{◌≡◌, ◌+◌, List, [], ◌∷◌, ◌++◌, append_assoc, map, nat_lt, sym, ◌∙◌, ap, subst, refl}
use Rattle.std.specs.List.{AllByRecursion}
use Rattle.tcs_terms.specs.declared.inputs.Event.{Event}
use Rattle.tcs_terms.specs.declared.inputs.Note.{Note}
use Rattle.tcs_terms.specs.Runs.{AreEventsOf}
use Rattle.tcs_terms.specs.Setups.{Deployment}
use Rattle.tcs_terms.proofs.RunLaws.{front_stands}
use Rattle.text_words.proofs.HexLaws.{bytes_everywhere}
use Rattle.wire_frame.specs.Spelling.{spell}
use Rattle.trace_text.specs.Lines.{IsNote}
use Rattle.trace_text.specs.Traces.{IsSending, IsHappening}
use Rattle.tcs_laws.specs.Certification.{Tests}
use Rattle.protocol.specs.Invariant.Time.{Moment, StandsIn, time_after}
use Rattle.protocol.specs.Limit.{Progress, Step, frame_bytes, frame_limit, limited_step, limited_run}
use Rattle.protocol.specs.Limit.Progress.{Live, Ended}
use Rattle.protocol.specs.Run.{run}
use Rattle.protocol.specs.World.{World, Sent, Happening as Came, world_step}
use Rattle.protocol.proofs.Moments.{time_after-now}
use Rattle.protocol_laws.specs.Addresses.{TransactionsStayAmongNodes}
use Rattle.protocol_laws.specs.Limits.{LimitHolds}
use Rattle.protocol_laws.specs.Ranges.{IsSentInRange, IsWorldInRange}
use Rattle.protocol_laws.proofs.AllOf.{all-at}
use Rattle.protocol_laws.proofs.AmongNodes.{run-among_nodes}
use Rattle.protocol_laws.proofs.ChangeOf.{change_of}
use Rattle.protocol_laws.proofs.Guards.{by_guard}
use Rattle.protocol_laws.proofs.LimitedRuns.{messages_grow, history_grows, run_on, limit_holds}
use Rattle.protocol_laws.proofs.RangesRun.{run-in_range}
use Rattle.protocol_laws.proofs.RunInduction.{invariant_at}
use Rattle.protocol_laws.proofs.RunsOn.{limited_run-on}
use Rattle.protocol_laws.proofs.Standing.{StandsIn-right}
use Rattle.replay_core.specs.Trace.{sending, shown_by, happenings}
use Rattle.trace_laws.proofs.Asked.{asked-fitting}
use Rattle.trace_laws.proofs.Fits.{sent-fits}
use Rattle.trace_laws.proofs.Lists.{each-of, each-mapped, each-joined}
use Rattle.trace_laws.proofs.Marks.{result-small}
use Rattle.trace_laws.proofs.Notes.{note-shown}
use Rattle.trace_laws.proofs.OfVersion.{sent-of_version}
use Rattle.trace_laws.proofs.Spelled.{spelled-bytes}

-- ---- the world of a run

-- what it noted and sent may stand in a trace
record MayBeShown (setup : Deployment) (w : World) : Type 0 where
  notes : (n : Note) → StandsIn n w.history → IsNote setup.version setup.shards n
  sent : (s : Sent) → StandsIn s w.messages → IsSending setup.version (sending s)

run-shown : (tests : Tests) (setup : Deployment) (events : List Event) → AreEventsOf setup events → MayBeShown setup (run tests setup events)
run-shown tests setup events a = subst (MayBeShown setup) now (record {
  notes = note-shown tests setup t (invariant_at tests setup events a) in_range.history (asked-fitting tests setup events a);
  sent = λ s there. sent s there (all-at IsSentInRange t.now.messages in_range.messages s there);
})
  where
    t : Moment
    t = time_after tests setup events

    now : t.now ≡ run tests setup events
    now = time_after-now tests setup events

    in_range : IsWorldInRange t.now
    in_range = subst IsWorldInRange (sym now) (run-in_range tests setup events a)

    among : TransactionsStayAmongNodes setup t.now
    among = subst (TransactionsStayAmongNodes setup) (sym now) (run-among_nodes tests setup events a)

    sent : (s : Sent) → StandsIn s t.now.messages → IsSentInRange s → IsSending setup.version (sending s)
    sent s there k = record {
      from = k.from;
      to = k.to;
      frame = record {
        are_bytes = bytes_everywhere (spell s.message) (spelled-bytes s.message k.message);
        message = s.message;
        in_range = k.message;
        spelled = refl;
        fits = sent-fits tests setup t a.deployment (invariant_at tests setup events a) among (asked-fitting tests setup events a) (sent-of_version tests setup events a) s.from s.to s.message (record { sent = there });
      };
    }

-- ---- one event

-- the world after it is the run's
event-shown : (tests : Tests) (setup : Deployment) (front : List Event) (event : Event) (w : World) → w ≡ run tests setup front → AreEventsOf setup (front ++ event ∷ [])
    → IsHappening setup.version setup.shards
    (record { result = (world_step tests setup.version w event).result; notes = (world_step tests setup.version w event).notes; sends = map sending (world_step tests setup.version w event).sent })
event-shown tests setup front event w e a = record {
  result = result-small tests setup.version w event (subst IsWorldInRange (sym e) (run-in_range tests setup front (front_stands setup front (event ∷ []) a)));
  notes = each-of (IsNote setup.version setup.shards) h.notes (λ n s. after.notes n (subst (λ ns. StandsIn n ns) (sym (history_grows tests setup.version w event h (change_of tests setup.version w event))) (StandsIn-right w.history h.notes n s)));
  sends = each-mapped (IsSending setup.version) sending h.sent
      (λ m s. after.sent m (subst (λ ms. StandsIn m ms) (sym (messages_grow tests setup.version w event h (change_of tests setup.version w event))) (StandsIn-right w.messages h.sent m s)));
}
  where
    h : Came
    h = world_step tests setup.version w event

    after : MayBeShown setup h.after
    after = subst (MayBeShown setup) (run_on tests setup front event ∙ ap (λ x. (world_step tests setup.version x event).after) (sym e)) (run-shown tests setup (front ++ event ∷ []) a)

step-shown : (tests : Tests) (setup : Deployment) (front : List Event) (event : Event) (p : Progress) → LimitHolds tests setup front p → AreEventsOf setup (front ++ event ∷ [])
    → AllByRecursion (IsHappening setup.version setup.shards) (shown_by (limited_step tests setup.version p event).answer)
unfolding limited_step
step-shown tests setup front event (Live w count bytes) l a =
    by_guard {A = Step} (λ step. AllByRecursion (IsHappening setup.version setup.shards) (shown_by step.answer)) (nat_lt frame_limit (bytes + frame_bytes (world_step tests setup.version w event).sent))
    (λ passes. tt)
    (λ goes. (event-shown tests setup front event w l.world a, tt))
step-shown tests setup front event (Ended w count bytes) l a = tt

-- ---- events, one after the other

pub shown-from : (tests : Tests) (setup : Deployment) (rest front : List Event) (p : Progress) → p ≡ limited_run tests setup front → AreEventsOf setup (front ++ rest)
    → AllByRecursion (IsHappening setup.version setup.shards) (happenings tests setup.version p rest)
unfolding happenings
shown-from tests setup [] front p e a = tt
shown-from tests setup (event ∷ rest) front p e a =
    let up_to : AreEventsOf setup ((front ++ event ∷ []) ++ rest) = subst (AreEventsOf setup) (sym (append_assoc front (event ∷ []) rest)) a in
    let after : Progress = (limited_step tests setup.version p event).after in
    each-joined (IsHappening setup.version setup.shards) (shown_by (limited_step tests setup.version p event).answer) (happenings tests setup.version after rest)
    (step-shown tests setup front event p (subst (LimitHolds tests setup front) (sym e) (limit_holds tests setup front)) (front_stands setup (front ++ event ∷ []) rest up_to))
    (shown-from tests setup rest (front ++ event ∷ []) after (ap (λ q. (limited_step tests setup.version q event).after) e ∙ sym (limited_run-on tests setup front event)) up_to)
