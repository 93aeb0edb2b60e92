-- A proposer's attempt begins, or goes on to another stage.
use Rattle.std.proofs.Common.{◌≡◌, ◌∙◌, refl, sym, ap, subst, ℕ, ◌+◌, ◌<◌, ◌≤◌, true, List, [], ◌∷◌, ◌++◌, Some, None, ◌⊎◌, inl, inr, arith}
use Rattle.std.specs.Prelude.{nat_eq}
use Rattle.tcs_terms.specs.Places.{Membership}
use Rattle.quorum_protocol.specs.declared.terms.Ballot.{Ballot}
use Rattle.quorum_protocol.specs.declared.terms.Knows.{Knows}
use Rattle.quorum_protocol.specs.declared.terms.Message.{Message}
use Rattle.quorum_protocol.specs.declared.terms.Say.{Say}
use Rattle.quorum_protocol.specs.declared.terms.Say.TheVariants.{Ask, Put, Kept}
use Rattle.quorum_protocol.specs.declared.terms.Event.{Event}
use Rattle.quorum_protocol.specs.declared.terms.Event.TheVariants.{Cas}
use Rattle.quorum_protocol.specs.declared.terms.Stored.{Stored}
use Rattle.quorum_protocol.specs.Ballots.{put}
use Rattle.quorum_protocol.specs.Rules.{Stage, Attempt, message, to_all, is_asking}
use Rattle.quorum_protocol.specs.World.{World, promise_of, attempt_of, round_of, round_in, known_of, sending, with_attempt, knows, begun}
use Rattle.quorum_protocol.specs.Theorem.{StandsIn}
use Rattle.quorum_protocol.proofs.BallotLaws.{le_same}
use Rattle.quorum_protocol.proofs.Standing.{stands_front, stands_back, stands_map, stands_range}
use Rattle.quorum_protocol.proofs.Invariant.{StageFits, AttemptFits, MessageFits, Invariant, Grows}
use Rattle.quorum_protocol.proofs.Kept.{proposed_on, note_on}
use Rattle.quorum_protocol.proofs.Turns.{AskedBefore, Turn}
use Rattle.quorum_protocol.proofs.Lasting.{attempt_after, round_rises, accepted_lasts, attempt_lasts, chosen_lasts, known_lasts, no_note}

pub some_is : {X : Type 0} (x y : X) → Some x ≡ Some y → x ≡ y
some_is x y h = cc

-- a message to all acceptors is to one of them
pub record ToOne (acceptors : ℕ) (a : Attempt) (say : Say) (k : Message) : Type 0 where
  pub to : ℕ
  pub low : 1 ≤ to
  pub high : to ≤ acceptors
  pub is : k ≡ message a.ballot.proposer to a.ballot a.config.shard a.config.epoch say

pub to_one : (acceptors : ℕ) (a : Attempt) (say : Say) (k : Message) → StandsIn k (to_all acceptors a say) → ToOne acceptors a say k
to_one acceptors a say k s =
    let h = stands_map (λ (to : ℕ). message a.ballot.proposer to a.ballot a.config.shard a.config.epoch say) _ k s in
    let r = stands_range acceptors 1 h.0 h.1 in
    record { to = h.0; low = r.0; high = omega (arith, r.1); is = h.2 }

pub says : (acceptors : ℕ) (a : Attempt) (x y : Say) (k : Message) → StandsIn k (to_all acceptors a x) → k.say ≡ y → x ≡ y
says acceptors a x y k s h = sym (ap (λ (m : Message). m.say) (to_one acceptors a x k s).is) ∙ h

ask_not_kept : Ask ≡ Kept → ⊥
ask_not_kept h = cc

ask_not_put : (d : Membership) → Ask ≡ Put d → ⊥
ask_not_put d h = cc

-- ---- an attempt begins

module _ (w : World) (es : List Event) (notes : List Stored) (i : Invariant w es notes) (round : ℕ) (config : Membership)
    (higher : round_of w config.by < round) (next : config.epoch ≡ known_of w (knows config.by config) + 1) where
  abbrev after_cas : World
  after_cas = sending (with_attempt w config.by (begun round config)) (to_all w.acceptors (begun round config) Ask)

  cas_grows : Grows w after_cas
  cas_grows = record {
    acceptors = refl;
    messages = λ m s. stands_front w.messages _ m s;
    promises = λ q. le_same (promise_of w q);
    accepted = λ q b h. h;
    rounds = round_rises w config.by (begun round config) (omega (arith, higher));
  }

  begun_fits : AttemptFits after_cas (es ++ Cas round config ∷ []) (notes ++ []) config.by (begun round config)
  begun_fits = record {
    proposer_is = refl;
    proposed = record { round = round; stands = stands_back es (Cas round config ∷ []) (Cas round config) (inl refl) };
    climbed = λ f l h. note_on notes [] config.by config.shard f (i.known (knows config.by config) f l (omega (arith, next, h)));
    stage = record { distinct = tt; each = λ b s. absurd s; put = λ x h. absurd (cc h); below = λ x h. absurd (cc h) };
  }

  attempts_after : (p : ℕ) (b : Attempt) → attempt_of after_cas p ≡ Some b → AttemptFits after_cas (es ++ Cas round config ∷ []) (notes ++ []) p b
  attempts_after p b h = elim (attempt_after w config.by (begun round config) p) [
    | inl n ↦ subst (λ (q : ℕ). AttemptFits after_cas (es ++ Cas round config ∷ []) (notes ++ []) q b) (sym n.0)
        (subst (λ (z : Attempt). AttemptFits after_cas (es ++ Cas round config ∷ []) (notes ++ []) config.by z) (some_is _ _ (sym n.1 ∙ h)) begun_fits)
    | inr o ↦ attempt_lasts w es notes i (Cas round config) after_cas cas_grows [] p b (sym o ∙ h)
  ]

  asking_after : (p : ℕ) (b : Attempt) → attempt_of after_cas p ≡ Some b → is_asking b.stage ≡ true → (round_of w p < b.ballot.round) ⊎ AskedBefore w p b
  asking_after p b h k = elim (attempt_after w config.by (begun round config) p) [
    | inl n ↦ inl (subst (λ (z : Attempt). round_of w p < z.ballot.round) (some_is _ _ (sym n.1 ∙ h)) (subst (λ (q : ℕ). round_of w q < round) (sym n.0) higher))
    | inr o ↦ inr (record { old = b; is = sym o ∙ h; ballot_is = refl; asks = k })
  ]

  ask_fits : (k : Message) → StandsIn k (to_all w.acceptors (begun round config) Ask) → MessageFits after_cas (es ++ Cas round config ∷ []) k k.say
  ask_fits k s =
      let o : ToOne w.acceptors (begun round config) Ask k = to_one w.acceptors (begun round config) Ask k s in
      subst (λ (z : Message). MessageFits after_cas (es ++ Cas round config ∷ []) z z.say) (sym o.is) (o.low, o.high)

  pub cas_turn : Turn w es notes (Cas round config) after_cas (to_all w.acceptors (begun round config) Ask) None
  cas_turn = record {
    grows = cas_grows;
    messages_are = refl;
    kept_above = λ k s h. absurd (ask_not_kept (says w.acceptors (begun round config) Ask Kept k s h));
    asking = asking_after;
    put_now = λ k d s h. absurd (ask_not_put d (says w.acceptors (begun round config) Ask (Put d) k s h));
    fresh = ask_fits;
    accepted = accepted_lasts w es notes i (Cas round config) after_cas cas_grows (λ q. refl);
    attempts = attempts_after;
    chosen = chosen_lasts w es notes i (Cas round config) after_cas cas_grows;
    known = known_lasts w es notes i (Cas round config) after_cas cas_grows [];
    note = no_note es notes;
  }

-- ---- an attempt goes on

-- an attempt at a stage
abbrev pub staged : Ballot → Membership → Stage → Attempt
staged b c st = record { ballot = b; config = c; stage = st }

module _ (w : World) (es : List Event) (notes : List Stored) (i : Invariant w es notes) (e : Event) (p : ℕ) (b : Ballot) (c : Membership) (old new : Stage)
    (is : attempt_of w p ≡ Some (staged b c old)) (ms : List Message) (stay : (m : Message) → StandsIn m w.messages → StandsIn m ms) (known : List (Knows × ℕ)) where
  abbrev pub changed : World
  changed = record w { attempts = put nat_eq w.attempts p (staged b c new); messages = ms; known = known }

  pub changed_grows : Grows w changed
  changed_grows = record {
    acceptors = refl;
    messages = stay;
    promises = λ q. le_same (promise_of w q);
    accepted = λ q x h. h;
    rounds = round_rises w p (staged b c new) (let r : round_of w p ≡ b.round = ap round_in is in omega (arith, r));
  }

  pub asking_changed : (is_asking new ≡ true → is_asking old ≡ true) → (q : ℕ) (x : Attempt) → attempt_of changed q ≡ Some x → is_asking x.stage ≡ true → (round_of w q < x.ballot.round) ⊎ AskedBefore w q x
  asking_changed f q x h k = elim (attempt_after w p (staged b c new) q) [
    | inl n ↦ (let one : staged b c new ≡ x = some_is _ _ (sym n.1 ∙ h) in inr (record {
      old = staged b c old;
      is = subst (λ (z : ℕ). attempt_of w z ≡ Some (staged b c old)) (sym n.0) is;
      ballot_is = ap (λ (z : Attempt). z.ballot) one;
      asks = f (ap (λ (z : Attempt). is_asking z.stage) one ∙ k);
    }))
    | inr o ↦ inr (record { old = x; is = sym o ∙ h; ballot_is = refl; asks = k })
  ]

  pub old_fits : AttemptFits w es notes p (staged b c old)
  old_fits = i.attempts p (staged b c old) is

  pub attempts_changed : (more : List Stored) → StageFits changed (staged b c new) new → (q : ℕ) (x : Attempt) → attempt_of changed q ≡ Some x → AttemptFits changed (es ++ e ∷ []) (notes ++ more) q x
  attempts_changed more f q x h = elim (attempt_after w p (staged b c new) q) [
    | inl n ↦ subst (λ (z : ℕ). AttemptFits changed (es ++ e ∷ []) (notes ++ more) z x) (sym n.0)
        (subst (λ (z : Attempt). AttemptFits changed (es ++ e ∷ []) (notes ++ more) p z) (some_is _ _ (sym n.1 ∙ h)) (record {
          proposer_is = old_fits.proposer_is;
          proposed = proposed_on es (e ∷ []) c old_fits.proposed;
          climbed = λ g l k. note_on notes more p c.shard g (old_fits.climbed g l k);
          stage = f;
        }))
    | inr o ↦ attempt_lasts w es notes i e changed changed_grows more q x (sym o ∙ h)
  ]
