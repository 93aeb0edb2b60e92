-- Each event keeps the invariant, and so every run has it.
use Rattle.std.proofs.Common.{◌≡◌, refl, subst, ℕ, zero, suc, ◌+◌, ◌-◌, ◌<◌, ◌==◌, ◌&&◌, Bool, true, false, List, [], ◌∷◌, ◌++◌, length, Option, Some, None, inl, inr, arith, eqb-true, append_assoc, slice_get}
use Rattle.std.proofs.lemmas.List.{append-nil}
use Rattle.std.proofs.lemmas.Bool.Decides.{nat_tests}
use Rattle.std.specs.Prelude.{nat_lt, if◌then◌else◌}
use Rattle.tcs_terms.specs.Places.{Membership, is_among}
use Rattle.quorum_protocol.specs.declared.terms.Ballot.{Ballot}
use Rattle.quorum_protocol.specs.declared.terms.Accepted.{Accepted}
use Rattle.quorum_protocol.specs.declared.terms.Message.{Message}
use Rattle.quorum_protocol.specs.declared.terms.Say.{Say}
use Rattle.quorum_protocol.specs.declared.terms.Say.TheVariants.{Ask, Told, Put, Kept}
use Rattle.quorum_protocol.specs.declared.terms.Event.{Event}
use Rattle.quorum_protocol.specs.declared.terms.Event.TheVariants.{Cas, Deliver, Stop}
use Rattle.quorum_protocol.specs.declared.terms.Stored.{Stored}
use Rattle.quorum_protocol.specs.declared.terms.Outcome.TheVariants.{Held, Stale, Gone}
use Rattle.quorum_protocol.specs.Ballots.{is_majority, ballot_le}
use Rattle.quorum_protocol.specs.Rules.{Stage, Attempt, is_of, after_told, after_kept, add_once, hear, value_of, answer, to_all}
use Rattle.quorum_protocol.specs.Rules.Stage.{Asking, Putting, Ended}
use Rattle.quorum_protocol.specs.World.{World, Happening, passes, acts, promise_of, accepted_of, attempt_of, round_of, known_of, place_at, knows, propose, on_ask, on_put, on_told, on_kept, hears_told, hears_kept, reaches, delivers, message_of, step, stops, with_attempt, with_promise, with_accepted, begun, first_world, run, run_from, history, notes_from, listed}
use Rattle.quorum_protocol.specs.Theorem.{StandsIn}
use Rattle.quorum_protocol.proofs.BallotLaws.{le_holds}
use Rattle.quorum_protocol.proofs.Invariant.{WasPut, PutFits, MessageFits, Invariant}
use Rattle.quorum_protocol.proofs.Turns.{Turn, invariant_lasts}
use Rattle.quorum_protocol.proofs.Lasting.{idle_turn}
use Rattle.quorum_protocol.proofs.Acceptors.{ask_turn, put_turn}
use Rattle.quorum_protocol.proofs.Changing.{cas_turn, staged}
use Rattle.quorum_protocol.proofs.Hearing.{OfAttempt, of_attempt}
use Rattle.quorum_protocol.proofs.Telling.{asks_turn, puts_turn}
use Rattle.quorum_protocol.proofs.Learning.{waits_turn, ends_turn}

-- what an event comes to keeps the invariant
abbrev pub Turns : World → List Event → List Stored → Event → Happening → Type 0
Turns w es notes e h = Turn w es notes e h.after h.sent h.stored

left_of : (a b : Bool) → (a && b) ≡ true → a ≡ true
left_of true b h = refl
left_of false b h = h

right_of : (a b : Bool) → (a && b) ≡ true → b ≡ true
right_of true b h = h
right_of false b h = absurd (cc h)

lower : (m n : ℕ) → nat_lt m n ≡ true → m < n
lower m n h = grind (arith, nat_tests)

module _ (w : World) (es : List Event) (notes : List Stored) (i : Invariant w es notes) where
  idle : (e : Event) → Turn w es notes e w [] None
  idle e = idle_turn w es notes e w.stopped i

  propose_turns : (round : ℕ) (config : Membership) → Turns w es notes (Cas round config) (propose w round config)
  propose_turns round config = go _ refl
    where
      go : (t : Bool) → (nat_lt (round_of w config.by) round && (config.epoch == known_of w (knows config.by config) + 1)) ≡ t
          → Turns w es notes (Cas round config) (if t then acts (with_attempt w config.by (begun round config)) (to_all w.acceptors (begun round config) Ask) else passes w (Held (known_of w (knows config.by config))))
      go true h = cas_turn w es notes i round config (lower _ _ (left_of _ _ h)) (eqb-true _ _ (right_of _ _ h))
      go false h = idle (Cas round config)

  module _ (e : Event) (m : Message) (s : StandsIn m w.messages) where
    fits : (y : Say) → m.say ≡ y → MessageFits w es m y
    fits y h = subst (λ (z : Say). MessageFits w es m z) h (i.messages m s)

    ask_turns : m.say ≡ Ask → Turns w es notes e (on_ask w m)
    ask_turns say = go _ refl
      where
        go : (t : Bool) → ballot_le (promise_of w (place_at m)) m.ballot ≡ t → Turns w es notes e (if t then acts (with_promise w (place_at m) m.ballot) (answer m (Told (accepted_of w (place_at m))) ∷ []) else passes w (Stale (promise_of w (place_at m)).round))
        go true h = ask_turn w es notes i e m (le_holds _ _ h) (fits Ask say)
        go false h = idle e

    put_turns : (config : Membership) → m.say ≡ Put config → Turns w es notes e (on_put w m config)
    put_turns config say = go _ refl
      where
        put : WasPut w m.shard m.epoch m.ballot config
        put = record { sent = m; stands = s; say_is = say; ballot_is = refl; shard_is = refl; epoch_is = refl }

        f : PutFits w es m config
        f = fits (Put config) say

        go : (t : Bool) → ballot_le (promise_of w (place_at m)) m.ballot ≡ t → Turns w es notes e (if t then acts (with_accepted (with_promise w (place_at m) m.ballot) (place_at m) (record { ballot = m.ballot; config = config })) (answer m Kept ∷ []) else passes w (Stale (promise_of w (place_at m)).round))
        go true h = put_turn w es notes i e m (le_holds _ _ h) config put f.within
        go false h = idle e

    -- TOLD, by the stage of the attempt
    told_at : (pair : Option Accepted) → m.say ≡ Told pair → (b : Ballot) (c : Membership) (st : Stage) → attempt_of w m.to ≡ Some (staged b c st)
        → Turns w es notes e (on_told w m pair (Some (staged b c st)))
    told_at pair say b c (Asking told greatest) is = go _ refl
      where
        majority : (of : OfAttempt m b c) (t : Bool) → is_majority w.acceptors (length (add_once told m.from)) ≡ t
            → Turns w es notes e (hears_told w m pair (staged b c (Asking told greatest))
            (if t then Putting (value_of (hear told greatest m.from pair) c) [] else Asking (add_once told m.from) (hear told greatest m.from pair)))
        majority of true h = puts_turn w es notes i e m s pair say b c told greatest is of h
        majority of false h = asks_turn w es notes i e m s pair say b c told greatest is of

        go : (t : Bool) → (is_of (staged b c (Asking told greatest)) m && true) ≡ t
            → Turns w es notes e (if t then hears_told w m pair (staged b c (Asking told greatest)) (after_told w.acceptors c (Asking told greatest) m.from pair) else passes w (Held b.round))
        go true h = majority (of_attempt m b c (Asking told greatest) (left_of _ _ h)) _ refl
        go false h = idle e
    told_at pair say b c (Putting value keepers) is = not_asking _
      where
        not_asking : (t : Bool) → Turns w es notes e (if t && false then hears_told w m pair (staged b c (Putting value keepers)) (Putting value keepers) else passes w (Held b.round))
        not_asking true = idle e
        not_asking false = idle e
    told_at pair say b c Ended is = not_asking _
      where
        not_asking : (t : Bool) → Turns w es notes e (if t && false then hears_told w m pair (staged b c Ended) Ended else passes w (Held b.round))
        not_asking true = idle e
        not_asking false = idle e

    told_turns : (pair : Option Accepted) → m.say ≡ Told pair → (a : Option Attempt) → attempt_of w m.to ≡ a → Turns w es notes e (on_told w m pair a)
    told_turns pair say None is = idle e
    told_turns pair say (Some a) is = told_at pair say a.ballot a.config a.stage is

    -- KEPT, by the stage of the attempt
    kept_at : m.say ≡ Kept → (b : Ballot) (c : Membership) (st : Stage) → attempt_of w m.to ≡ Some (staged b c st)
        → Turns w es notes e (on_kept w m (Some (staged b c st)))
    kept_at say b c (Asking told greatest) is = not_putting _
      where
        not_putting : (t : Bool) → Turns w es notes e (if t && false then hears_kept w m (staged b c (Asking told greatest)) (Asking told greatest) else passes w (Held b.round))
        not_putting true = idle e
        not_putting false = idle e
    kept_at say b c (Putting value keepers) is = go _ refl
      where
        majority : (of : OfAttempt m b c) (t : Bool) → is_majority w.acceptors (length (add_once keepers m.from)) ≡ t
            → Turns w es notes e (hears_kept w m (staged b c (Putting value keepers)) (if t then Ended else Putting value (add_once keepers m.from)))
        majority of true h = ends_turn w es notes i e m s say b c value keepers is of h
        majority of false h = waits_turn w es notes i e m s say b c value keepers is of

        go : (t : Bool) → (is_of (staged b c (Putting value keepers)) m && true) ≡ t
            → Turns w es notes e (if t then hears_kept w m (staged b c (Putting value keepers)) (after_kept w.acceptors (Putting value keepers) m.from) else passes w (Held b.round))
        go true h = majority (of_attempt m b c (Putting value keepers) (left_of _ _ h)) _ refl
        go false h = idle e
    kept_at say b c Ended is = not_putting _
      where
        not_putting : (t : Bool) → Turns w es notes e (if t && false then hears_kept w m (staged b c Ended) Ended else passes w (Held b.round))
        not_putting true = idle e
        not_putting false = idle e

    kept_turns : m.say ≡ Kept → (a : Option Attempt) → attempt_of w m.to ≡ a → Turns w es notes e (on_kept w m a)
    kept_turns say None is = idle e
    kept_turns say (Some a) is = kept_at say a.ballot a.config a.stage is

    reach_turns : (say : Say) → m.say ≡ say → Turns w es notes e (reaches w m say)
    unfolding reaches
    reach_turns Ask h = ask_turns h
    reach_turns (Told pair) h = told_turns pair h (attempt_of w m.to) refl
    reach_turns (Put config) h = put_turns config h
    reach_turns Kept h = kept_turns h (attempt_of w m.to) refl

    deliver_turns : (t : Bool) → Turns w es notes e (if t then passes w Gone else reaches w m m.say)
    deliver_turns true = idle e
    deliver_turns false = reach_turns m.say refl

  -- a message of a number was sent
  found : (ms : List Message) (k : ℕ) (m : Message) → slice_get ms k ≡ Some m → StandsIn m ms
  found [] k m h = absurd (none_there k h)
    where
      none_there : (n : ℕ) → slice_get [] n ≡ Some m → ⊥
      none_there n j = grind arith
  found (x ∷ xs) zero m h = inl (cc h)
  found (x ∷ xs) (suc k) m h = inr (found xs k m h)

  sent_before : (number : ℕ) (m : Message) → message_of w.messages number ≡ Some m → StandsIn m w.messages
  sent_before number m h = go (number == 0) h
    where
      go : (t : Bool) → (if t then None else slice_get w.messages (number - 1)) ≡ Some m → StandsIn m w.messages
      go true j = absurd (cc j)
      go false j = found w.messages (number - 1) m j

  delivers_turns : (number : ℕ) (o : Option Message) → message_of w.messages number ≡ o → Turns w es notes (Deliver number) (delivers w o)
  delivers_turns number None h = idle (Deliver number)
  delivers_turns number (Some m) h = deliver_turns (Deliver number) m (sent_before number m h) (is_among w.stopped m.to)

  pub step_turns : (e : Event) → Turns w es notes e (step w e)
  unfolding step
  step_turns (Cas round config) = propose_turns round config
  step_turns (Deliver number) = delivers_turns number (message_of w.messages number) refl
  step_turns (Stop a) = go (is_among w.stopped a)
    where
      go : (t : Bool) → Turns w es notes (Stop a) (if t then passes w Gone else stops w a)
      go true = idle (Stop a)
      go false = idle_turn w es notes (Stop a) (w.stopped ++ a ∷ []) i

-- the world before the first event
first_has : (n : ℕ) → Invariant (first_world n) [] []
first_has n = record {
  messages = λ m s. absurd s;
  accepted = λ q x h. absurd (cc h);
  attempts = λ p a h. absurd (cc h);
  chosen = λ k s. absurd s;
  known = λ k f l h. absurd (omega (arith, l, h));
}

from_then_on : (es done : List Event) (w : World) (notes : List Stored) → Invariant w done notes → Invariant (run_from w es) (done ++ es) (notes ++ notes_from w es)
from_then_on [] done w notes i = rw (append-nil done, append-nil notes) i
from_then_on (e ∷ es) done w notes i =
    let k = from_then_on es (done ++ e ∷ []) (step w e).after (notes ++ listed (step w e).stored)
    (invariant_lasts w done notes e (step w e).after (step w e).sent (step w e).stored (step_turns w done notes i e) i) in
    subst (λ (ds : List Event). Invariant (run_from (step w e).after es) ds (notes ++ notes_from w (e ∷ es))) (append_assoc done (e ∷ []) es)
    (subst (λ (ns : List Stored). Invariant (run_from (step w e).after es) ((done ++ e ∷ []) ++ es) ns) (append_assoc notes (listed (step w e).stored) (notes_from (step w e).after es)) k)

-- every run has it
pub run_has : (n : ℕ) (es : List Event) → Invariant (run n es) es (history n es)
unfolding run history
run_has n es = from_then_on es [] (first_world n) [] (first_has n)
