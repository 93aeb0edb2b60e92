-- What one event must show for the invariant to last.
use Rattle.std.proofs.Common.{◌≡◌, ◌∙◌, ap, subst, ℕ, ◌+◌, ◌<◌, true, List, [], ◌∷◌, ◌++◌, Option, Some, ◌⊎◌, inl, inr, arith}
use Rattle.tcs_terms.specs.Places.{Membership}
use Rattle.quorum_protocol.specs.declared.terms.Ballot.{Ballot}
use Rattle.quorum_protocol.specs.declared.terms.Accepted.{Accepted}
use Rattle.quorum_protocol.specs.declared.terms.Place.{Place}
use Rattle.quorum_protocol.specs.declared.terms.Knows.{Knows}
use Rattle.quorum_protocol.specs.declared.terms.Message.{Message}
use Rattle.quorum_protocol.specs.declared.terms.Say.{Say}
use Rattle.quorum_protocol.specs.declared.terms.Say.TheVariants.{Ask, Told, Put, Kept}
use Rattle.quorum_protocol.specs.declared.terms.Event.{Event}
use Rattle.quorum_protocol.specs.declared.terms.Stored.{Stored}
use Rattle.quorum_protocol.specs.Rules.{Attempt, is_asking}
use Rattle.quorum_protocol.specs.World.{World, promise_of, accepted_of, attempt_of, round_of, known_of, listed}
use Rattle.quorum_protocol.specs.Theorem.{StandsIn, IsProposed}
use Rattle.quorum_protocol.proofs.BallotLaws.{Le, le_trans, lt_not_le}
use Rattle.quorum_protocol.proofs.Standing.{stands_either}
use Rattle.quorum_protocol.proofs.Invariant.{ToldFits, PutFits, MessageFits, AcceptedFits, AttemptFits, Chosen, Climbed, Invariant, Grows, place_from}
use Rattle.quorum_protocol.proofs.Kept.{put_on, safe_on, acceptor_on, proposed_on}

-- an attempt that asks did so before, or began in this turn in a round above all earlier ones
pub record AskedBefore (w : World) (p : ℕ) (a : Attempt) : Type 0 where
  pub old : Attempt
  pub is : attempt_of w p ≡ Some old
  pub ballot_is : old.ballot ≡ a.ballot
  pub asks : is_asking old.stage ≡ true

-- what is put is of an attempt that asked until now
pub record PutNow (w : World) (k : Message) : Type 0 where
  pub attempt : Attempt
  pub is : attempt_of w k.ballot.proposer ≡ Some attempt
  pub ballot_is : attempt.ballot ≡ k.ballot
  pub asks : is_asking attempt.stage ≡ true

-- a note tells what was proposed, above epochs that its proposer learned of before
pub record NoteFits (es : List Event) (notes : List Stored) (n : Stored) : Type 0 where
  pub proposed : IsProposed es n.config
  pub climbed : Climbed notes n.proposer n.config.shard n.config.epoch

-- an event that leads from one world to another, with what was sent and noted
pub record Turn (w : World) (es : List Event) (notes : List Stored) (e : Event) (w' : World) (sent : List Message) (stored : Option Stored) : Type 0 where
  pub grows : Grows w w'
  pub messages_are : w'.messages ≡ w.messages ++ sent
  pub kept_above : (k : Message) → StandsIn k sent → k.say ≡ Kept → Le (promise_of w (place_from k)) k.ballot
  pub asking : (p : ℕ) (a : Attempt) → attempt_of w' p ≡ Some a → is_asking a.stage ≡ true → (round_of w p < a.ballot.round) ⊎ AskedBefore w p a
  pub put_now : (k : Message) (d : Membership) → StandsIn k sent → k.say ≡ Put d → PutNow w k
  pub fresh : (m : Message) → StandsIn m sent → MessageFits w' (es ++ e ∷ []) m m.say
  pub accepted : (q : Place) (x : Accepted) → accepted_of w' q ≡ Some x → AcceptedFits w' q x
  pub attempts : (p : ℕ) (a : Attempt) → attempt_of w' p ≡ Some a → AttemptFits w' (es ++ e ∷ []) (notes ++ listed stored) p a
  pub chosen : (n : Stored) → StandsIn n (notes ++ listed stored) → Chosen w' n.config
  pub known : (k : Knows) → Climbed (notes ++ listed stored) k.proposer k.shard (known_of w' k + 1)
  pub note : (n : Stored) → stored ≡ Some n → NoteFits es notes n

module _ (w : World) (es : List Event) (notes : List Stored) (e : Event) (w' : World) (sent : List Message) (stored : Option Stored) (t : Turn w es notes e w' sent stored) where
  -- a message is an old one or a fresh one
  which : (m : Message) → StandsIn m w'.messages → StandsIn m w.messages ⊎ StandsIn m sent
  which m s = stands_either w.messages sent m (subst (λ ms. StandsIn m ms) t.messages_are s)

  told_lasts : (m : Message) (pair : Option Accepted) → ToldFits w m pair → ToldFits w' m pair
  told_lasts m pair f = record {
    within = acceptor_on w w' t.grows m.from f.within;
    promised = le_trans _ _ _ f.promised (t.grows.promises (place_from m));
    put = λ x i. put_on w w' t.grows m.shard m.epoch x.ballot x.config (f.put x i);
    below = f.below;
    covers = λ k s i j l. elim (which k s) [
      | inl o ↦ f.covers k o i j l
      | inr n ↦ absurd (lt_not_le k.ballot m.ballot l (le_trans _ _ _ f.promised (subst (λ q. Le (promise_of w q) k.ballot) j (t.kept_above k n i))))
    ];
  }

  asked_lasts : (m : Message) (config : Membership) → PutFits w es m config → (a : Attempt) → attempt_of w' m.ballot.proposer ≡ Some a → a.ballot ≡ m.ballot → is_asking a.stage ≡ true → ⊥
  asked_lasts m config f a i j k = go (t.asking m.ballot.proposer a i k)
    where
      go : (round_of w m.ballot.proposer < a.ballot.round) ⊎ AskedBefore w m.ballot.proposer a → ⊥
      go (inl l) = let r : a.ballot.round ≡ m.ballot.round = ap (λ (b : Ballot). b.round) j in omega (arith, l, r, f.begun)
      go (inr o) = f.asked o.old o.is (o.ballot_is ∙ j) o.asks

  one_lasts : (m : Message) (config : Membership) → PutFits w es m config → (k : Message) (d : Membership) → StandsIn k w'.messages → k.say ≡ Put d → k.ballot ≡ m.ballot → d ≡ config
  one_lasts m config f k d s i j = elim (which k s) [
    | inl o ↦ f.one k d o i j
    | inr n ↦ (let p : PutNow w k = t.put_now k d n i in
        absurd (f.asked p.attempt (subst (λ (b : Ballot). attempt_of w b.proposer ≡ Some p.attempt) j p.is) (p.ballot_is ∙ j) p.asks))
  ]

  put_lasts : (m : Message) (config : Membership) → PutFits w es m config → PutFits w' (es ++ e ∷ []) m config
  put_lasts m config f = record {
    within = acceptor_on w w' t.grows m.to f.within;
    shard_is = f.shard_is;
    epoch_is = f.epoch_is;
    proposed = proposed_on es (e ∷ []) config f.proposed;
    begun = omega (arith, f.begun, t.grows.rounds m.ballot.proposer);
    asked = asked_lasts m config f;
    safe = safe_on w w' t.grows m.shard m.epoch m.ballot config f.safe;
    one = one_lasts m config f;
  }

  message_lasts : (m : Message) (say : Say) → MessageFits w es m say → MessageFits w' (es ++ e ∷ []) m say
  message_lasts m Ask f = acceptor_on w w' t.grows m.to f
  message_lasts m (Told pair) f = told_lasts m pair f
  message_lasts m (Put config) f = put_lasts m config f
  message_lasts m Kept f = record { within = acceptor_on w w' t.grows m.from f.within; accepted = t.grows.accepted (place_from m) m.ballot f.accepted }

  pub invariant_lasts : Invariant w es notes → Invariant w' (es ++ e ∷ []) (notes ++ listed stored)
  invariant_lasts i = record {
    messages = λ m s. elim (which m s) [ inl o ↦ message_lasts m m.say (i.messages m o) | inr n ↦ t.fresh m n ];
    accepted = t.accepted;
    attempts = t.attempts;
    chosen = t.chosen;
    known = t.known;
  }
