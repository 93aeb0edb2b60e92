-- How many events and messages the trace of a run shows, and the order of commits at its end.
use Rattle.std.proofs.Common.{◌≡◌, ℕ, ◌+◌, ◌<◌, ◌≤◌, ◌^◌, true, List, [], ◌∷◌, ◌++◌, length, length-append, fold, nat_lt, sym, ap, subst, arith}
use Rattle.std.specs.Prelude.{All, IsTrue}
use Rattle.std.specs.List.{list_all}
use Rattle.std.proofs.lemmas.List.{length-map}
use Rattle.tcs_terms.specs.declared.inputs.Event.{Event}
use Rattle.tcs_terms.specs.declared.inputs.Note.{Note}
use Rattle.tcs_terms.specs.declared.inputs.Note.TheVariants.{Decide}
use Rattle.tcs_terms.specs.declared.votes.Decision.TheVariants.{Commit}
use Rattle.tcs_terms.specs.Messages.{is_txn}
use Rattle.tcs_terms.specs.Runs.{AreEventsOf}
use Rattle.tcs_terms.specs.Setups.{Deployment}
use Rattle.tcs_terms.proofs.RunLaws.{front_stands}
use Rattle.trace_text.specs.Traces.{Happening, sends_of}
use Rattle.tcs_laws.specs.Certification.{Tests}
use Rattle.protocol.specs.History.{order_of}
use Rattle.protocol.specs.Limit.{Progress, Answer, Step, frame_bytes, frame_limit, limited_step, limited_run}
use Rattle.protocol.specs.Limit.Answer.{Happens, SoupFull}
use Rattle.protocol.specs.Limit.Progress.{Live, Ended}
use Rattle.protocol.specs.Run.{run}
use Rattle.protocol.specs.World.{World, Happening as Came, first_world, world_step}
use Rattle.protocol_laws.specs.Limits.{LimitHolds}
use Rattle.protocol_laws.specs.Promises.{world_of}
use Rattle.protocol_laws.specs.Ranges.{IsNoteInRange}
use Rattle.protocol_laws.proofs.AllOf.{all-at}
use Rattle.protocol_laws.proofs.Guards.{by_guard}
use Rattle.protocol_laws.proofs.LimitedRuns.{limit_holds}
use Rattle.protocol_laws.proofs.OrderOf.{order-noted}
use Rattle.protocol_laws.proofs.RangesRun.{run-in_range}
use Rattle.protocol_laws.proofs.RunsOn.{event-adds, messages-few}
use Rattle.protocol_laws.proofs.Standing.{all-from}
use Rattle.replay_core.specs.Trace.{sending, shown_by, happenings}

-- ---- events

one-shown : (a : Answer) → length (shown_by a) ≤ 1
one-shown (Happens result notes sent) = omega arith
one-shown (SoupFull bytes) = omega arith

-- no more are shown than there are
pub shown-few : (tests : Tests) (version : ℕ) (p : Progress) (es : List Event) → length (happenings tests version p es) ≤ length es
unfolding happenings
shown-few tests version p [] = omega arith
shown-few tests version p (e ∷ es) =
    let s : Step = limited_step tests version p e in
    omega (arith, one-shown s.answer, shown-few tests version s.after es, length-append (shown_by s.answer) (happenings tests version s.after es))

-- ---- messages

sends-joined : (hs gs : List Happening) → sends_of (hs ++ gs) ≡ sends_of hs + sends_of gs
sends-joined [] gs = omega arith
sends-joined (h ∷ hs) gs = omega (arith, sends-joined hs gs)

-- those of one event are added to those before
step-sends : (tests : Tests) (version : ℕ) (p : Progress) (e : Event)
    → length (world_of p).messages + sends_of (shown_by (limited_step tests version p e).answer) ≡ length (world_of (limited_step tests version p e).after).messages
unfolding limited_step
step-sends tests version (Live w count bytes) e =
    let h : Came = world_step tests version w e in
    by_guard {A = Step} (λ s. length w.messages + sends_of (shown_by s.answer) ≡ length (world_of s.after).messages) (nat_lt frame_limit (bytes + frame_bytes h.sent))
    (λ passes. omega arith)
    (λ goes. omega (arith, length-map h.sent sending, length-append w.messages h.sent, ap length (event-adds tests version w e).messages))
step-sends tests version (Ended w count bytes) e = omega arith

-- those that are shown are those of the world at the end
sends-from : (tests : Tests) (version : ℕ) (p : Progress) (es : List Event)
    → length (world_of p).messages + sends_of (happenings tests version p es) ≡ length (world_of (fold (λ q e. (limited_step tests version q e).after) p es)).messages
unfolding happenings
sends-from tests version p [] = omega arith
sends-from tests version p (e ∷ es) =
    let s : Step = limited_step tests version p e in
    omega (arith, step-sends tests version p e, sends-from tests version s.after es, sends-joined (shown_by s.answer) (happenings tests version s.after es))

limit-is : frame_limit ≤ 2 ^ 28
unfolding frame_limit
limit-is = omega arith

world-few : (tests : Tests) (setup : Deployment) (es : List Event) (p : Progress) → LimitHolds tests setup es p → length (world_of p).messages < 2 ^ 64
world-few tests setup es (Live w count bytes) l =
    let summed : bytes ≡ frame_bytes w.messages = l.summed in
    let within : bytes ≤ frame_limit = l.within in
    omega (arith, messages-few w.messages, summed, within, limit-is)
world-few tests setup es (Ended w count bytes) l =
    let within : frame_bytes (run tests setup l.before).messages ≤ frame_limit = l.within in
    let same : length w.messages ≡ length (run tests setup l.before).messages = ap (λ (x : World). length x.messages) l.world in
    omega (arith, messages-few (run tests setup l.before).messages, within, limit-is, same)

pub sends-few : (tests : Tests) (setup : Deployment) (es : List Event) → sends_of (happenings tests setup.version (Live (first_world setup) 0 0) es) < 2 ^ 64
unfolding limited_run
sends-few tests setup es =
    let all = sends-from tests setup.version (Live (first_world setup) 0 0) es in
    let few : length (world_of (fold (λ q e. (limited_step tests setup.version q e).after) (Live (first_world setup) 0 0) es)).messages < 2 ^ 64 = world-few tests setup es (limited_run tests setup es) (limit_holds tests setup es) in
    omega (arith, all, few)

-- ---- the order of commits

history-in_range : (tests : Tests) (setup : Deployment) (es : List Event) (p : Progress) → AreEventsOf setup es → LimitHolds tests setup es p → All IsNoteInRange (world_of p).history
history-in_range tests setup es (Live w count bytes) a l = subst (λ (x : World). All IsNoteInRange x.history) (sym l.world) (run-in_range tests setup es a).history
history-in_range tests setup es (Ended w count bytes) a l =
    subst (λ (x : World). All IsNoteInRange x.history) (sym l.world) (run-in_range tests setup l.before (front_stands setup l.before (l.event ∷ l.after) (subst (AreEventsOf setup) l.split a))).history

order-in_range : (h : List Note) → All IsNoteInRange h → list_all is_txn (order_of h) ≡ true
order-in_range h k = all-from is_txn (order_of h) (λ txn s. (all-at IsNoteInRange h k (Decide txn Commit) (order-noted h txn s)).0)

pub order-shown : (tests : Tests) (setup : Deployment) (es : List Event) → AreEventsOf setup es → IsTrue (list_all is_txn (order_of (world_of (limited_run tests setup es)).history))
order-shown tests setup es a = order-in_range _ (history-in_range tests setup es (limited_run tests setup es) a (limit_holds tests setup es))
