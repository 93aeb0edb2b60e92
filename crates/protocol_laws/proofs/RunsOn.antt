-- A run with one more event, its counts, and that the run with results is the run.
use Rattle.std.proofs.Common.{◌≡◌, ℕ, ◌+◌, ◌≤◌, ◌^◌, List, [], ◌∷◌, ◌++◌, length, length-append, fold, inl, inr, sym, ◌∙◌, ap, subst, refl, arith}
use Rattle.std.proofs.lemmas.List.Sums.{fold-append, sum_by-cons}
use Rattle.tcs_terms.specs.declared.inputs.Event.{Event}
use Rattle.tcs_terms.specs.declared.inputs.Note.{Note}
use Rattle.tcs_terms.specs.declared.messages.Message.{Message}
use Rattle.tcs_terms.specs.Setups.{Deployment}
use Rattle.tcs_laws.specs.Certification.{Tests}
use Rattle.wire_frame.specs.Spelling.{spell}
use Rattle.protocol.specs.Limit.{Progress, frame_bytes, frame_limit, limited_step, limited_run}
use Rattle.protocol.specs.Limit.Progress.{Live, Ended}
use Rattle.protocol.specs.Run.{Ran, ran, ran_on, run, world_after}
use Rattle.protocol.specs.World.{World, Sent, Happening, first_world, world_step}
use Rattle.protocol_laws.specs.Change.{Change, Passes, Stops, Acts, AtService}
use Rattle.protocol_laws.specs.Growth.{AddsTo, CountsHold}
use Rattle.protocol_laws.specs.Limits.{LimitHolds}
use Rattle.protocol_laws.proofs.ChangeOf.{change_of}
use Rattle.protocol_laws.proofs.LimitedRuns.{limit_holds, messages_grow, history_grows}
use Rattle.protocol_laws.proofs.OneNote.{AtMostOne, effect-one}
use Rattle.protocol_laws.proofs.ServiceSays.{serves_no_notes}

pub limited_run-on : (tests : Tests) (setup : Deployment) (events : List Event) (event : Event)
    → limited_run tests setup (events ++ event ∷ []) ≡ (limited_step tests setup.version (limited_run tests setup events) event).after
unfolding limited_run
limited_run-on tests setup events event = fold-append (λ p e. (limited_step tests setup.version p e).after) (Live (first_world setup) 0 0) events (event ∷ [])

ran_from : (tests : Tests) (version : ℕ) (events : List Event) (so_far : Ran) → (fold (λ r e. ran_on r (world_step tests version r.world e)) so_far events).world ≡ world_after tests version so_far.world events
unfolding world_after
ran_from tests version [] so_far = refl
ran_from tests version (e ∷ es) so_far = ran_from tests version es (ran_on so_far (world_step tests version so_far.world e))

pub ran-run : (tests : Tests) (setup : Deployment) (events : List Event) → (ran tests setup events).world ≡ run tests setup events
unfolding ran run
ran-run tests setup events = ran_from tests setup.version events (record { results = []; world = first_world setup })

one-length : (ns : List Note) → AtMostOne ns → length ns ≤ 1
one-length ns (inl e) = let n : length ns ≡ 0 = ap (λ xs. length xs) e in omega (arith, n)
one-length ns (inr o) = let n : length ns ≡ 1 = ap (λ xs. length xs) o.1 in omega (arith, n)

notes-one : (tests : Tests) (version : ℕ) (w : World) (event : Event) (h : Happening) → Change tests version w event h → AtMostOne h.notes
notes-one tests version w event h (Passes e result q) = inl refl
notes-one tests version w event h (Stops name) = inl refl
notes-one tests version w event h (Acts e name node input out c n s m k x) = effect-one tests version node input out x
notes-one tests version w event h (AtService number from message sent out e m s x) = inl (serves_no_notes _ _ _ _ out x)

pub event-adds : (tests : Tests) (version : ℕ) (w : World) (event : Event) → AddsTo w (world_step tests version w event)
event-adds tests version w event =
    let h : Happening = world_step tests version w event in
    let c : Change tests version w event h = change_of tests version w event in
    record { messages = messages_grow tests version w event h c; history = history_grows tests version w event h c; one = one-length h.notes (notes-one tests version w event h c) }

frame-some : (m : Message) → 1 ≤ length (spell m)
unfolding spell
frame-some m = omega arith

pub messages-few : (sent : List Sent) → length sent ≤ frame_bytes sent
messages-few [] = omega arith
messages-few (s ∷ ss) =
    let more : length ss ≤ frame_bytes ss = messages-few ss in
    let some : 1 ≤ length (spell s.message) = frame-some s.message in
    let all : frame_bytes (s ∷ ss) ≡ length (spell s.message) + frame_bytes ss = sum_by-cons (λ s. length (spell s.message)) s ss in
    omega (arith, more, some, all)

notes-after : (tests : Tests) (version : ℕ) (events : List Event) (w : World) → length (world_after tests version w events).history ≤ length w.history + length events
unfolding world_after
notes-after tests version [] w = omega arith
notes-after tests version (e ∷ es) w =
    let h : Happening = world_step tests version w e in
    let a : AddsTo w h = event-adds tests version w e in
    let more : length (world_after tests version h.after es).history ≤ length h.after.history + length es = notes-after tests version es h.after in
    let one : length h.notes ≤ 1 = a.one in
    let grown : length h.after.history ≡ length w.history + length h.notes = ap (λ ns. length ns) a.history ∙ length-append w.history h.notes in
    omega (arith, more, one, grown)

run-notes : (tests : Tests) (setup : Deployment) (events : List Event) → length (run tests setup events).history ≤ length events
unfolding run first_world
run-notes tests setup events = let n : length (world_after tests setup.version (first_world setup) events).history ≤ 0 + length events = notes-after tests setup.version events (first_world setup) in omega (arith, n)

limit-is : frame_limit ≤ 2 ^ 28
unfolding frame_limit
limit-is = omega arith

counted : (tests : Tests) (setup : Deployment) (events : List Event) (p : Progress) → LimitHolds tests setup events p → CountsHold events p
counted tests setup events (Live w count bytes) l =
    let few : length w.messages ≤ frame_bytes w.messages = messages-few w.messages in
    let summed : bytes ≡ frame_bytes w.messages = l.summed in
    let within : bytes ≤ frame_limit = l.within in
    let limit : frame_limit ≤ 2 ^ 28 = limit-is in
    let notes : length w.history ≤ length events = subst (λ x. length x.history ≤ length events) (sym l.world) (run-notes tests setup events) in
    let count_is : count ≡ length events = l.counted in
    record {
      counted = l.counted;
      summed = l.summed;
      within = l.within;
      messages = omega (arith, few, summed);
      few = omega (arith, few, summed, within, limit);
      notes = omega (arith, notes, count_is);
    }
counted tests setup events (Ended w count bytes) l = tt

pub run-counted : (tests : Tests) (setup : Deployment) (events : List Event) → CountsHold events (limited_run tests setup events)
run-counted tests setup events = counted tests setup events (limited_run tests setup events) (limit_holds tests setup events)
