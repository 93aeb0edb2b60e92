-- Acceptors keep the invariant: a promise, and what is accepted.
use Rattle.std.proofs.Common.{◌≡◌, ◌∙◌, refl, sym, ap, subst, List, [], ◌∷◌, ◌++◌, Option, Some, None, ◌⊎◌, inl, inr, arith}
use Rattle.tcs_terms.specs.Places.{Membership}
use Rattle.quorum_protocol.specs.declared.terms.Ballot.{Ballot}
use Rattle.quorum_protocol.specs.declared.terms.Accepted.{Accepted}
use Rattle.quorum_protocol.specs.declared.terms.Place.{Place}
use Rattle.quorum_protocol.specs.declared.terms.Message.{Message}
use Rattle.quorum_protocol.specs.declared.terms.Say.{Say}
use Rattle.quorum_protocol.specs.declared.terms.Say.TheVariants.{Told, Put, Kept}
use Rattle.quorum_protocol.specs.declared.terms.Event.{Event}
use Rattle.quorum_protocol.specs.declared.terms.Stored.{Stored}
use Rattle.quorum_protocol.specs.Ballots.{same_place}
use Rattle.quorum_protocol.specs.Rules.{answer}
use Rattle.quorum_protocol.specs.World.{World, promise_of, accepted_of, sending, with_promise, with_accepted, place_at}
use Rattle.quorum_protocol.specs.Theorem.{StandsIn}
use Rattle.quorum_protocol.proofs.BallotLaws.{Le, le_same, le_trans}
use Rattle.quorum_protocol.proofs.Tables.{get_put, exact_place}
use Rattle.quorum_protocol.proofs.PutHere.{get_put_here, same_place_is}
use Rattle.quorum_protocol.proofs.Standing.{stands_front, stands_either}
use Rattle.quorum_protocol.proofs.Invariant.{WasPut, Covers, ToldFits, KeptFits, MessageFits, AcceptedFits, Invariant, Grows, IsAcceptor, place_from}
use Rattle.quorum_protocol.proofs.Kept.{put_on}
use Rattle.quorum_protocol.proofs.Turns.{Turn}
use Rattle.quorum_protocol.proofs.Lasting.{promise_here, promise_rises, accepted_lasts, attempts_last, chosen_lasts, known_lasts, asking_lasts, no_note}

-- the one message of a list
only : {X : Type 0} (x y : X) → StandsIn y (x ∷ []) → y ≡ x
only x y (inl h) = h
only x y (inr h) = absurd h

told_not_kept : (pair : Option Accepted) → Told pair ≡ Kept → ⊥
told_not_kept pair h = cc

told_not_put : (pair : Option Accepted) (d : Membership) → Told pair ≡ Put d → ⊥
told_not_put pair d h = cc

kept_not_put : (d : Membership) → Kept ≡ Put d → ⊥
kept_not_put d h = cc

say_is : (m k : Message) (x y : Say) → k ≡ answer m x → k.say ≡ y → x ≡ y
say_is m k x y h j = sym (ap (λ (z : Message). z.say) h) ∙ j

some_is : {X : Type 0} (x y : X) → Some x ≡ Some y → x ≡ y
some_is x y h = cc

module _ (w : World) (es : List Event) (notes : List Stored) (i : Invariant w es notes) (e : Event) (m : Message) (high : Le (promise_of w (place_at m)) m.ballot) where
  abbrev after_ask : World
  after_ask = sending (with_promise w (place_at m) m.ballot) (answer m (Told (accepted_of w (place_at m))) ∷ [])

  ask_grows : Grows w after_ask
  ask_grows = record {
    acceptors = refl;
    messages = λ k s. stands_front w.messages _ k s;
    promises = promise_rises w (place_at m) m.ballot high;
    accepted = λ q b h. h;
    rounds = λ p. omega arith;
  }

  -- what it tells covers what it kept before
  told_now : IsAcceptor w m.to → ToldFits after_ask (answer m (Told (accepted_of w (place_at m)))) (accepted_of w (place_at m))
  told_now within = record {
    within = within;
    promised = subst (λ (b : Ballot). Le m.ballot b) (sym (promise_here w (place_at m) m.ballot)) (le_same m.ballot);
    put = λ x h. put_on w after_ask ask_grows m.shard m.epoch x.ballot x.config (i.accepted (place_at m) x h).put;
    below = λ x h. le_trans _ _ _ (i.accepted (place_at m) x h).promised high;
    covers = λ k s h j l. elim (stands_either w.messages _ k s) [
      | inl o ↦ subst (λ (q : Place). Covers (accepted_of w q) k.ballot) j (kept_old k o h).accepted
      | inr n ↦ absurd (told_not_kept (accepted_of w (place_at m)) (say_is m k _ _ (only _ k n) h))
    ];
  }
    where
      kept_old : (k : Message) → StandsIn k w.messages → k.say ≡ Kept → KeptFits w k
      kept_old k o h = subst (λ (y : Say). MessageFits w es k y) h (i.messages k o)

  pub ask_turn : IsAcceptor w m.to → Turn w es notes e (sending (with_promise w (place_at m) m.ballot) (answer m (Told (accepted_of w (place_at m))) ∷ [])) (answer m (Told (accepted_of w (place_at m))) ∷ []) None
  ask_turn within = record {
    grows = ask_grows;
    messages_are = refl;
    kept_above = λ k s h. absurd (told_not_kept (accepted_of w (place_at m)) (say_is m k _ _ (only _ k s) h));
    asking = asking_lasts w after_ask (λ p. refl);
    put_now = λ k d s h. absurd (told_not_put (accepted_of w (place_at m)) d (say_is m k _ _ (only _ k s) h));
    fresh = λ k s. subst (λ (z : Message). MessageFits after_ask (es ++ e ∷ []) z z.say) (sym (only _ k s)) (told_now within);
    accepted = accepted_lasts w es notes i e after_ask ask_grows (λ q. refl);
    attempts = attempts_last w es notes i e after_ask ask_grows (λ p. refl);
    chosen = chosen_lasts w es notes i e after_ask ask_grows;
    known = known_lasts w es notes i e after_ask ask_grows [];
    note = no_note es notes;
  }

  module _ (config : Membership) (put : WasPut w m.shard m.epoch m.ballot config) where
    abbrev after_put : World
    after_put = sending (with_accepted (with_promise w (place_at m) m.ballot) (place_at m) (record { ballot = m.ballot; config = config })) (answer m Kept ∷ [])

    -- the pair that an acceptor has after this
    accepted_after : (q : Place) → ((q ≡ place_at m) × (accepted_of after_put q ≡ Some (record { ballot = m.ballot; config = config }))) ⊎ (accepted_of after_put q ≡ accepted_of w q)
    accepted_after q = get_put same_place exact_place w.accepted (place_at m) (record { ballot = m.ballot; config = config }) q

    accepted_rises : (q : Place) (b : Ballot) → Covers (accepted_of w q) b → Covers (accepted_of after_put q) b
    accepted_rises q b h = elim (accepted_after q) [
      | inl p ↦ record {
        one = record { ballot = m.ballot; config = config };
        is = p.1;
        above = le_trans b h.one.ballot m.ballot h.above (le_trans h.one.ballot (promise_of w q) m.ballot (i.accepted q h.one h.is).promised (subst (λ (z : Place). Le (promise_of w z) m.ballot) (sym p.0) high));
      }
      | inr p ↦ subst (λ (o : Option Accepted). Covers o b) (sym p) h
    ]

    put_grows : Grows w after_put
    put_grows = record {
      acceptors = refl;
      messages = λ k s. stands_front w.messages _ k s;
      promises = promise_rises w (place_at m) m.ballot high;
      accepted = accepted_rises;
      rounds = λ p. omega arith;
    }

    abbrev record_now : Accepted
    record_now = record { ballot = m.ballot; config = config }

    fits_here : AcceptedFits after_put (place_at m) record_now
    fits_here = record {
      put = put_on w after_put put_grows m.shard m.epoch m.ballot config put;
      promised = subst (λ (b : Ballot). Le m.ballot b) (sym (promise_here w (place_at m) m.ballot)) (le_same m.ballot);
    }

    kept_here : (k : Message) → k ≡ answer m Kept → Le (promise_of w (place_from k)) k.ballot
    kept_here k h = subst (λ (z : Message). Le (promise_of w (place_from z)) z.ballot) (sym h) high

    kept_fits_now : IsAcceptor w m.to → KeptFits after_put (answer m Kept)
    kept_fits_now within = record {
      within = within;
      accepted = record { one = record_now; is = get_put_here same_place w.accepted (place_at m) record_now (same_place_is (place_at m)); above = le_same m.ballot };
    }

    -- what an acceptor accepts was put, in the ballot that it promises
    accepted_now : (q : Place) (x : Accepted) → accepted_of after_put q ≡ Some x → AcceptedFits after_put q x
    accepted_now q x h = elim (accepted_after q) [
      | inl p ↦ (let one : record_now ≡ x = some_is _ _ (sym p.1 ∙ h) in
          subst (λ (z : Place). AcceptedFits after_put z x) (sym p.0) (subst (λ (y : Accepted). AcceptedFits after_put (place_at m) y) one fits_here))
      | inr p ↦ (let f : AcceptedFits w q x = i.accepted q x (sym p ∙ h) in record {
        put = put_on w after_put put_grows q.shard q.epoch x.ballot x.config f.put;
        promised = le_trans _ _ _ f.promised (put_grows.promises q);
      })
    ]

    pub put_turn : IsAcceptor w m.to → Turn w es notes e after_put (answer m Kept ∷ []) None
    put_turn within = record {
      grows = put_grows;
      messages_are = refl;
      kept_above = λ k s h. kept_here k (only _ k s);
      asking = asking_lasts w after_put (λ p. refl);
      put_now = λ k d s h. absurd (kept_not_put d (say_is m k _ _ (only _ k s) h));
      fresh = λ k s. subst (λ (z : Message). MessageFits after_put (es ++ e ∷ []) z z.say) (sym (only _ k s))
          (kept_fits_now within);
      accepted = accepted_now;
      attempts = attempts_last w es notes i e after_put put_grows (λ p. refl);
      chosen = chosen_lasts w es notes i e after_put put_grows;
      known = known_lasts w es notes i e after_put put_grows [];
      note = no_note es notes;
    }
