-- TOLD keeps the invariant: a proposer asks on, or puts.
use Rattle.std.proofs.Common.{◌≡◌, ◌∙◌, refl, sym, ap, subst, ℕ, zero, suc, ◌+◌, ◌<◌, ◌≤◌, true, List, [], ◌∷◌, ◌++◌, length, Option, Some, None, ◌⊎◌, inl, inr, arith}
use Rattle.std.proofs.Common.{map}
use Rattle.std.specs.List.{range_with_len}
use Rattle.std.specs.Prelude.{nat_eq}
use Rattle.tcs_terms.specs.Places.{Membership}
use Rattle.quorum_protocol.specs.declared.terms.Ballot.{Ballot}
use Rattle.quorum_protocol.specs.declared.terms.Accepted.{Accepted}
use Rattle.quorum_protocol.specs.declared.terms.Message.{Message}
use Rattle.quorum_protocol.specs.declared.terms.Say.{Say}
use Rattle.quorum_protocol.specs.declared.terms.Say.TheVariants.{Told, Put, Kept}
use Rattle.quorum_protocol.specs.declared.terms.Event.{Event}
use Rattle.quorum_protocol.specs.declared.terms.Stored.{Stored}
use Rattle.quorum_protocol.specs.Ballots.{is_majority, put}
use Rattle.quorum_protocol.specs.Rules.{Attempt, message, to_all, value_of, add_once, hear, is_asking}
use Rattle.quorum_protocol.specs.Rules.Stage.{Asking, Putting}
use Rattle.quorum_protocol.specs.World.{World, attempt_of, round_of, round_in}
use Rattle.quorum_protocol.specs.Theorem.{StandsIn, IsProposed}
use Rattle.quorum_protocol.proofs.BallotLaws.{Le, Lt, le_lt}
use Rattle.quorum_protocol.proofs.PutHere.{get_put_here, same_number}
use Rattle.quorum_protocol.proofs.Standing.{stands_front, stands_back, stands_either}
use Rattle.quorum_protocol.proofs.Invariant.{WasPut, Heard, Safe, Keeps, ToldFits, PutFits, MessageFits, AttemptFits, Invariant, Grows}
use Rattle.quorum_protocol.proofs.Kept.{proposed_on, heard_on}
use Rattle.quorum_protocol.proofs.Carried.{put_fits}
use Rattle.quorum_protocol.proofs.Turns.{PutNow, Turn}
use Rattle.quorum_protocol.proofs.Lasting.{accepted_lasts, chosen_lasts, known_lasts, no_note}
use Rattle.quorum_protocol.proofs.Changing.{some_is, ToOne, to_one, says, staged, changed_grows, asking_changed, attempts_changed}
use Rattle.quorum_protocol.proofs.Hearing.{OfAttempt, heard_more}

-- a message to all acceptors is to each
in_range : (n from x : ℕ) → from ≤ x → x < from + n → StandsIn x (range_with_len from n)
in_range zero from x l h = absurd (omega arith)
in_range (suc n) from x l h = elim (same_or_above from x l) [ inl q ↦ inl q | inr a ↦ inr (in_range n (from + 1) x (omega arith) (omega arith)) ]
  where
    same_or_above : (f y : ℕ) → f ≤ y → (y ≡ f) ⊎ (f < y)
    same_or_above f y k = grind arith

mapped : {X Y : Type 0} (f : X → Y) (xs : List X) (x : X) → StandsIn x xs → StandsIn (f x) (map f xs)
mapped f [] x t = absurd t
mapped f (y ∷ ys) x (inl q) = inl (ap f q)
mapped f (y ∷ ys) x (inr t) = inr (mapped f ys x t)

stands_all : (acceptors : ℕ) (a : Attempt) (say : Say) (to : ℕ) → 1 ≤ to → to ≤ acceptors → StandsIn (message a.ballot.proposer to a.ballot a.config.shard a.config.epoch say) (to_all acceptors a say)
stands_all acceptors a say to low high =
    mapped (λ (x : ℕ). message a.ballot.proposer x a.ballot a.config.shard a.config.epoch say) (range_with_len 1 acceptors) to (in_range acceptors 1 to low (omega (arith, high)))

put_not_kept : (c : Membership) → Put c ≡ Kept → ⊥
put_not_kept c h = cc

put_is : (c d : Membership) → Put c ≡ Put d → c ≡ d
put_is c d h = cc

never_asks : (v : Membership) (ks : List ℕ) → is_asking (Putting v ks) ≡ true → ⊥
never_asks v ks h = cc

module _ (w : World) (es : List Event) (notes : List Stored) (i : Invariant w es notes) (e : Event) (m : Message) (s : StandsIn m w.messages)
    (pair : Option Accepted) (say : m.say ≡ Told pair) (b : Ballot) (c : Membership) (told : List ℕ) (greatest : Option Accepted)
    (is : attempt_of w m.to ≡ Some (staged b c (Asking told greatest))) (of : OfAttempt m b c) where
  fits : ToldFits w m pair
  fits = subst (λ (y : Say). MessageFits w es m y) say (i.messages m s)

  own : AttemptFits w es notes m.to (staged b c (Asking told greatest))
  own = i.attempts m.to (staged b c (Asking told greatest)) is

  -- nothing was put in a ballot that still asks
  not_put : (d : Membership) (t f : ℕ) → WasPut w t f b d → ⊥
  not_put d t f h =
      let pf : PutFits w es h.sent d = put_fits w es notes i h.sent d h.stands h.say_is in
      let at : h.sent.ballot.proposer ≡ m.to = ap (λ (x : Ballot). x.proposer) h.ballot_is ∙ own.proposer_is in
      pf.asked (staged b c (Asking told greatest)) (subst (λ (q : ℕ). attempt_of w q ≡ Some (staged b c (Asking told greatest))) (sym at) is) (sym h.ballot_is) refl

  put_told : (x : Accepted) → pair ≡ Some x → WasPut w c.shard c.epoch x.ballot x.config
  put_told x h =
      let p : WasPut w m.shard m.epoch x.ballot x.config = fits.put x h in
      record { sent = p.sent; stands = p.stands; say_is = p.say_is; ballot_is = p.ballot_is; shard_is = p.shard_is ∙ of.shard_is; epoch_is = p.epoch_is ∙ of.epoch_is }

  below_told : (x : Accepted) → pair ≡ Some x → Lt x.ballot b
  below_told x h = le_lt x.ballot b (subst (λ (y : Ballot). Le x.ballot y) of.ballot_is (fits.below x h))
      (λ q. not_put x.config c.shard c.epoch (subst (λ (y : Ballot). WasPut w c.shard c.epoch y x.config) q (put_told x h)))

  abbrev told' : List ℕ
  told' = add_once told m.from

  abbrev greatest' : Option Accepted
  greatest' = hear told greatest m.from pair

  heard' : Heard w c.shard c.epoch b (add_once told m.from) (hear told greatest m.from pair)
  heard' = heard_more w c.shard c.epoch b told greatest own.stage m.from pair
      (λ x k. record {
        sent = m;
        stands = s;
        pair = pair;
        say_is = say;
        from_is = refl;
        ballot_is = of.ballot_is;
        shard_is = of.shard_is;
        epoch_is = of.epoch_is;
        covered = k;
      })
      put_told below_told

  -- ---- it asks on

  abbrev asks_on : World
  asks_on = record w { attempts = put nat_eq w.attempts m.to (staged b c (Asking (add_once told m.from) (hear told greatest m.from pair))); messages = w.messages ++ [] }

  asks_grows : Grows w asks_on
  asks_grows = changed_grows w es notes i e m.to b c (Asking told greatest) (Asking told' greatest') is (w.messages ++ []) (λ k t. stands_front w.messages [] k t) w.known

  pub asks_turn : Turn w es notes e asks_on [] None
  asks_turn = record {
    grows = asks_grows;
    messages_are = refl;
    kept_above = λ k t h. absurd t;
    asking = asking_changed w es notes i e m.to b c (Asking told greatest) (Asking told' greatest') is (w.messages ++ []) (λ k t. stands_front w.messages [] k t) w.known (λ h. refl);
    put_now = λ k d t h. absurd t;
    fresh = λ k t. absurd t;
    accepted = accepted_lasts w es notes i e asks_on asks_grows (λ q. refl);
    attempts = attempts_changed w es notes i e m.to b c (Asking told greatest) (Asking told' greatest') is (w.messages ++ []) (λ k t. stands_front w.messages [] k t) w.known []
        (heard_on w asks_on asks_grows c.shard c.epoch b told' greatest' heard');
    chosen = chosen_lasts w es notes i e asks_on asks_grows;
    known = known_lasts w es notes i e asks_on asks_grows [];
    note = no_note es notes;
  }

  -- ---- it puts

  abbrev value : Membership
  value = value_of (hear told greatest m.from pair) c

  -- what it puts is of its shard and epoch, and was proposed
  value_fits : (g : Option Accepted) → ((x : Accepted) → g ≡ Some x → WasPut w c.shard c.epoch x.ballot x.config)
      → ((value_of g c).shard ≡ c.shard) × ((value_of g c).epoch ≡ c.epoch) × IsProposed es (value_of g c)
  value_fits None f = (refl, refl, own.proposed)
  value_fits (Some x) f =
      let p : WasPut w c.shard c.epoch x.ballot x.config = f x refl in
      let pf : PutFits w es p.sent x.config = put_fits w es notes i p.sent x.config p.stands p.say_is in
      (pf.shard_is ∙ p.shard_is, pf.epoch_is ∙ p.epoch_is, pf.proposed)

  abbrev puts_now : World
  puts_now = record w {
    attempts = put nat_eq w.attempts m.to (staged b c (Putting (value_of (hear told greatest m.from pair) c) []));
    messages = w.messages ++ to_all w.acceptors (staged b c (Asking told greatest)) (Put (value_of (hear told greatest m.from pair) c));
  }

  abbrev puts_sent : List Message
  puts_sent = to_all w.acceptors (staged b c (Asking told greatest)) (Put (value_of (hear told greatest m.from pair) c))

  puts_grows : Grows w puts_now
  puts_grows = changed_grows w es notes i e m.to b c (Asking told greatest) (Putting value []) is (w.messages ++ puts_sent) (λ k t. stands_front w.messages puts_sent k t) w.known

  attempt_now : attempt_of puts_now b.proposer ≡ Some (staged b c (Putting value []))
  attempt_now = subst (λ (q : ℕ). attempt_of puts_now q ≡ Some (staged b c (Putting value []))) (sym own.proposer_is)
      (get_put_here nat_eq w.attempts m.to (staged b c (Putting value [])) (same_number m.to))

  -- all that is put in this ballot is this
  one_value : (k : Message) (d : Membership) → StandsIn k puts_now.messages → k.say ≡ Put d → k.ballot ≡ b → d ≡ value
  one_value k d t h j = elim (stands_either w.messages puts_sent k t) [
    | inl o ↦ absurd (not_put d k.shard k.epoch (record { sent = k; stands = o; say_is = h; ballot_is = j; shard_is = refl; epoch_is = refl }))
    | inr n ↦ sym (put_is value d (says w.acceptors (staged b c (Asking told greatest)) (Put value) (Put d) k n h))
  ]

  module _ (many : is_majority w.acceptors (length (add_once told m.from)) ≡ true) where
    safe_now : Safe puts_now c.shard c.epoch b value
    safe_now = record {
      told = told';
      greatest = greatest';
      heard = heard_on w puts_now puts_grows c.shard c.epoch b told' greatest' heard';
      many = many;
      value = λ x h. ap (λ (g : Option Accepted). value_of g c) h;
    }

    put_fits_now : (to : ℕ) → 1 ≤ to → to ≤ w.acceptors → PutFits puts_now (es ++ e ∷ []) (message b.proposer to b c.shard c.epoch (Put value)) value
    put_fits_now to low high =
        let v = value_fits greatest' heard'.put in
        record {
          within = (low, high);
          shard_is = v.0;
          epoch_is = v.1;
          proposed = proposed_on es (e ∷ []) value v.2;
          begun = (let r : round_of puts_now b.proposer ≡ b.round = ap round_in attempt_now in omega (arith, r));
          asked = λ a h j k. never_asks value [] (ap (λ (z : Attempt). is_asking z.stage) (some_is _ _ (sym attempt_now ∙ h)) ∙ k);
          safe = safe_now;
          one = one_value;
        }

    put_by : (k : Message) → ToOne w.acceptors (staged b c (Asking told greatest)) (Put value) k → PutNow w k
    put_by k o = record {
      attempt = staged b c (Asking told greatest);
      is = subst (λ (z : Message). attempt_of w z.ballot.proposer ≡ Some (staged b c (Asking told greatest))) (sym o.is)
          (subst (λ (q : ℕ). attempt_of w q ≡ Some (staged b c (Asking told greatest))) (sym own.proposer_is) is);
      ballot_is = sym (ap (λ (z : Message). z.ballot) o.is);
      asks = refl;
    }

    fresh_put : (k : Message) → ToOne w.acceptors (staged b c (Asking told greatest)) (Put value) k → MessageFits puts_now (es ++ e ∷ []) k k.say
    fresh_put k o = subst (λ (z : Message). MessageFits puts_now (es ++ e ∷ []) z z.say) (sym o.is) (put_fits_now o.to o.low o.high)

    -- the put message is there, as there is an acceptor that told; nobody keeps it yet
    keeps_none : Keeps puts_now c.shard c.epoch b value []
    keeps_none = record {
      put = record {
        sent = message b.proposer m.from b c.shard c.epoch (Put value);
        stands = stands_back w.messages puts_sent _ (stands_all w.acceptors (staged b c (Asking told greatest)) (Put value) m.from fits.within.0 fits.within.1);
        say_is = refl;
        ballot_is = refl;
        shard_is = refl;
        epoch_is = refl;
      };
      distinct = tt;
      each = λ a t. absurd t;
    }

    pub puts_turn : Turn w es notes e puts_now puts_sent None
    puts_turn = record {
      grows = puts_grows;
      messages_are = refl;
      kept_above = λ k t h. absurd (put_not_kept value (says w.acceptors (staged b c (Asking told greatest)) (Put value) Kept k t h));
      asking = asking_changed w es notes i e m.to b c (Asking told greatest) (Putting value []) is (w.messages ++ puts_sent) (λ k t. stands_front w.messages puts_sent k t) w.known (λ h. refl);
      put_now = λ k d t h. put_by k (to_one w.acceptors (staged b c (Asking told greatest)) (Put value) k t);
      fresh = λ k t. fresh_put k (to_one w.acceptors (staged b c (Asking told greatest)) (Put value) k t);
      accepted = accepted_lasts w es notes i e puts_now puts_grows (λ q. refl);
      attempts = attempts_changed w es notes i e m.to b c (Asking told greatest) (Putting value []) is (w.messages ++ puts_sent) (λ k t. stands_front w.messages puts_sent k t) w.known [] keeps_none;
      chosen = chosen_lasts w es notes i e puts_now puts_grows;
      known = known_lasts w es notes i e puts_now puts_grows [];
      note = no_note es notes;
    }
