-- What an event that changes little leaves as it was.
use Rattle.std.proofs.Common.{◌≡◌, ◌∙◌, refl, sym, ap, subst, ℕ, ◌+◌, ◌<◌, ◌≤◌, true, List, [], ◌∷◌, ◌++◌, Option, Some, None, ◌⊎◌, inl, inr, arith}
use Rattle.std.proofs.lemmas.List.{append-nil}
use Rattle.std.specs.Prelude.{nat_eq}
use Rattle.quorum_protocol.specs.declared.terms.Ballot.{Ballot}
use Rattle.quorum_protocol.specs.declared.terms.Accepted.{Accepted}
use Rattle.quorum_protocol.specs.declared.terms.Place.{Place}
use Rattle.quorum_protocol.specs.declared.terms.Knows.{Knows}
use Rattle.quorum_protocol.specs.declared.terms.Event.{Event}
use Rattle.quorum_protocol.specs.declared.terms.Stored.{Stored}
use Rattle.quorum_protocol.specs.Ballots.{same_place, or_else, no_ballot}
use Rattle.quorum_protocol.specs.Rules.{Attempt, is_asking}
use Rattle.quorum_protocol.specs.World.{World, promise_of, accepted_of, attempt_of, round_of, round_in, known_of, with_promise, with_attempt}
use Rattle.quorum_protocol.specs.Theorem.{StandsIn}
use Rattle.quorum_protocol.proofs.BallotLaws.{Le, le_same, le_trans}
use Rattle.quorum_protocol.proofs.Tables.{get_put, exact_place, exact_number}
use Rattle.quorum_protocol.proofs.PutHere.{get_put_here, same_place_is}
use Rattle.quorum_protocol.proofs.Standing.{stands_either}
use Rattle.quorum_protocol.proofs.Invariant.{AcceptedFits, AttemptFits, Chosen, Climbed, Invariant, Grows}
use Rattle.quorum_protocol.proofs.Kept.{put_on, attempt_on, chosen_on, note_on}
use Rattle.quorum_protocol.proofs.Turns.{AskedBefore, NoteFits, Turn}

pub stands_nil : {X : Type 0} (xs : List X) (x : X) → StandsIn x (xs ++ []) → StandsIn x xs
stands_nil xs x s = elim (stands_either xs [] x s) [ inl h ↦ h | inr h ↦ absurd h ]

-- ---- promises and attempts after a change

-- what an acceptor promised, after it promised this
pub promise_after : (w : World) (at : Place) (b : Ballot) (q : Place) → ((q ≡ at) × (promise_of (with_promise w at b) q ≡ b)) ⊎ (promise_of (with_promise w at b) q ≡ promise_of w q)
promise_after w at b q = elim (get_put same_place exact_place w.promises at b q) [
  | inl h ↦ inl (h.0, ap (λ (o : Option Ballot). or_else no_ballot o) h.1)
  | inr h ↦ inr (ap (λ (o : Option Ballot). or_else no_ballot o) h)
]

pub promise_here : (w : World) (at : Place) (b : Ballot) → promise_of (with_promise w at b) at ≡ b
promise_here w at b = ap (λ (o : Option Ballot). or_else no_ballot o) (get_put_here same_place w.promises at b (same_place_is at))

pub promise_rises : (w : World) (at : Place) (b : Ballot) → Le (promise_of w at) b → (q : Place) → Le (promise_of w q) (promise_of (with_promise w at b) q)
promise_rises w at b h q = elim (promise_after w at b q) [
  | inl p ↦ subst (λ (y : Ballot). Le (promise_of w q) y) (sym p.1) (subst (λ (z : Place). Le (promise_of w z) b) (sym p.0) h)
  | inr p ↦ subst (λ (y : Ballot). Le (promise_of w q) y) (sym p) (le_same (promise_of w q))
]

-- a proposer's attempt, after this one took its place
pub attempt_after : (w : World) (p : ℕ) (a : Attempt) (q : ℕ) → ((q ≡ p) × (attempt_of (with_attempt w p a) q ≡ Some a)) ⊎ (attempt_of (with_attempt w p a) q ≡ attempt_of w q)
attempt_after w p a q = get_put nat_eq exact_number w.attempts p a q

pub round_rises : (w : World) (p : ℕ) (a : Attempt) → round_of w p ≤ a.ballot.round → (q : ℕ) → round_of w q ≤ round_of (with_attempt w p a) q
round_rises w p a h q = elim (attempt_after w p a q) [
  | inl e ↦ (let r : round_of (with_attempt w p a) q ≡ a.ballot.round = ap round_in e.1 in let s : round_of w q ≡ round_of w p = ap (round_of w) e.0 in omega (arith, r, s, h))
  | inr e ↦ (let r : round_of (with_attempt w p a) q ≡ round_of w q = ap round_in e in omega (arith, r))
]

-- ---- what lasts

module _ (w : World) (es : List Event) (notes : List Stored) (i : Invariant w es notes) (e : Event) (w' : World) (g : Grows w w') where
  pub accepted_lasts : ((q : Place) → accepted_of w' q ≡ accepted_of w q) → (q : Place) (x : Accepted) → accepted_of w' q ≡ Some x → AcceptedFits w' q x
  accepted_lasts same q x h =
      let f : AcceptedFits w q x = i.accepted q x (sym (same q) ∙ h) in
      record { put = put_on w w' g q.shard q.epoch x.ballot x.config f.put; promised = le_trans _ _ _ f.promised (g.promises q) }

  -- an old attempt
  pub attempt_lasts : (more : List Stored) (p : ℕ) (a : Attempt) → attempt_of w p ≡ Some a → AttemptFits w' (es ++ e ∷ []) (notes ++ more) p a
  attempt_lasts more p a h = attempt_on w w' g es (e ∷ []) notes more p a (i.attempts p a h)

  pub attempts_last : ((p : ℕ) → attempt_of w' p ≡ attempt_of w p) → (p : ℕ) (a : Attempt) → attempt_of w' p ≡ Some a → AttemptFits w' (es ++ e ∷ []) (notes ++ []) p a
  attempts_last same p a h = attempt_lasts [] p a (sym (same p) ∙ h)

  pub chosen_lasts : (n : Stored) → StandsIn n (notes ++ []) → Chosen w' n.config
  chosen_lasts n s = chosen_on w w' g n.config (i.chosen n (stands_nil notes n s))

  pub known_lasts : (more : List Stored) (k : Knows) → Climbed (notes ++ more) k.proposer k.shard (known_of w k + 1)
  known_lasts more k f l h = note_on notes more k.proposer k.shard f (i.known k f l h)

-- no attempt began or changed
pub asking_lasts : (w w' : World) → ((p : ℕ) → attempt_of w' p ≡ attempt_of w p) → (p : ℕ) (a : Attempt) → attempt_of w' p ≡ Some a → is_asking a.stage ≡ true → (round_of w p < a.ballot.round) ⊎ AskedBefore w p a
asking_lasts w w' same p a h k = inr (record { old = a; is = sym (same p) ∙ h; ballot_is = refl; asks = k })

pub no_note : (es : List Event) (notes : List Stored) (n : Stored) → None ≡ Some n → NoteFits es notes n
no_note es notes n h = absurd (cc h)

-- other acceptors have stopped
abbrev pub stopping : World → List ℕ → World
stopping w stopped = record w { stopped = stopped }

stop_grows : (w : World) (stopped : List ℕ) → Grows w (stopping w stopped)
stop_grows w stopped =
    record { acceptors = refl; messages = λ m s. s; promises = λ q. le_same (promise_of w q); accepted = λ q b h. h; rounds = λ p. omega arith }

-- an event that does nothing, or stops an acceptor
pub idle_turn : (w : World) (es : List Event) (notes : List Stored) (e : Event) (stopped : List ℕ) → Invariant w es notes → Turn w es notes e (stopping w stopped) [] None
idle_turn w es notes e stopped i = record {
  grows = stop_grows w stopped;
  messages_are = sym (append-nil w.messages);
  kept_above = λ k s h. absurd s;
  asking = asking_lasts w (stopping w stopped) (λ p. refl);
  put_now = λ k d s h. absurd s;
  fresh = λ m s. absurd s;
  accepted = accepted_lasts w es notes i e (stopping w stopped) (stop_grows w stopped) (λ q. refl);
  attempts = attempts_last w es notes i e (stopping w stopped) (stop_grows w stopped) (λ p. refl);
  chosen = chosen_lasts w es notes i e (stopping w stopped) (stop_grows w stopped);
  known = known_lasts w es notes i e (stopping w stopped) (stop_grows w stopped) [];
  note = no_note es notes;
}
