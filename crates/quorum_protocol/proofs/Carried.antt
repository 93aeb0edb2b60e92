-- What is chosen in a ballot is what every higher ballot puts.
use Rattle.std.proofs.Common.{◌≡◌, ◌∙◌, sym, subst, ℕ, zero, suc, ◌<◌, ◌≤◌, true, List, length, Option, ◌⊎◌, inl, inr, arith}
use Rattle.tcs_terms.specs.Places.{Membership}
use Rattle.quorum_protocol.specs.declared.terms.Ballot.{Ballot}
use Rattle.quorum_protocol.specs.declared.terms.Accepted.{Accepted}
use Rattle.quorum_protocol.specs.declared.terms.Message.{Message}
use Rattle.quorum_protocol.specs.declared.terms.Say.{Say}
use Rattle.quorum_protocol.specs.declared.terms.Say.TheVariants.{Told, Put, Kept}
use Rattle.quorum_protocol.specs.declared.terms.Event.{Event}
use Rattle.quorum_protocol.specs.declared.terms.Stored.{Stored}
use Rattle.quorum_protocol.specs.Ballots.{is_majority}
use Rattle.quorum_protocol.specs.World.{World}
use Rattle.quorum_protocol.specs.Theorem.{StandsIn}
use Rattle.quorum_protocol.proofs.BallotLaws.{Le, Lt, le_trans, le_split, lt_or_same}
use Rattle.quorum_protocol.proofs.Tables.{place_is}
use Rattle.quorum_protocol.proofs.Standing.{Within}
use Rattle.quorum_protocol.proofs.Majorities.{Common, majorities_meet}
use Rattle.quorum_protocol.proofs.Invariant.{WasPut, WasKept, HasTold, Covers, Heard, Safe, Keeps, Chosen, ToldFits, PutFits, KeptFits, MessageFits, Invariant, place_from}

less_or_same : (m n : ℕ) → m < suc n → (m < n) ⊎ (m ≡ n)
less_or_same m n h = grind arith

module _ (w : World) (es : List Event) (notes : List Stored) (i : Invariant w es notes) where
  told_fits : (m : Message) (pair : Option Accepted) → StandsIn m w.messages → m.say ≡ Told pair → ToldFits w m pair
  told_fits m pair s h = subst (λ (y : Say). MessageFits w es m y) h (i.messages m s)

  pub put_fits : (m : Message) (config : Membership) → StandsIn m w.messages → m.say ≡ Put config → PutFits w es m config
  put_fits m config s h = subst (λ (y : Say). MessageFits w es m y) h (i.messages m s)

  kept_fits : (m : Message) → StandsIn m w.messages → m.say ≡ Kept → KeptFits w m
  kept_fits m s h = subst (λ (y : Say). MessageFits w es m y) h (i.messages m s)

  told_within : (s e : ℕ) (b : Ballot) (told : List ℕ) (x : Option Accepted) → Heard w s e b told x → Within w.acceptors told
  told_within s e b told x h a st =
      let t : HasTold w s e b x a = h.each a st in
      subst (λ (n : ℕ). (1 ≤ n) × (n ≤ w.acceptors)) t.from_is (told_fits t.sent t.pair t.stands t.say_is).within

  keepers_within : (s e : ℕ) (b : Ballot) (c : Membership) (ks : List ℕ) → Keeps w s e b c ks → Within w.acceptors ks
  keepers_within s e b c ks h a st =
      let t : WasKept w s e b a = h.each a st in
      subst (λ (n : ℕ). (1 ≤ n) × (n ≤ w.acceptors)) t.from_is (kept_fits t.sent t.stands t.say_is).within

  safe_of : (s e : ℕ) (b : Ballot) (c : Membership) → WasPut w s e b c → Safe w s e b c
  safe_of s e b c h =
      let f : PutFits w es h.sent c = put_fits h.sent c h.stands h.say_is in
      subst (λ (x : Ballot). Safe w s e x c) h.ballot_is
      (subst (λ (x : ℕ). Safe w s x h.sent.ballot c) h.epoch_is
      (subst (λ (x : ℕ). Safe w x h.sent.epoch h.sent.ballot c) h.shard_is f.safe))

  -- one ballot puts one configuration
  pub one_of_a_ballot : (s e t f : ℕ) (a b : Ballot) (c d : Membership) → WasPut w s e a c → WasPut w t f b d → a ≡ b → d ≡ c
  one_of_a_ballot s e t f a b c d h k same = (put_fits h.sent c h.stands h.say_is).one k.sent d k.stands k.say_is (k.ballot_is ∙ (sym same ∙ sym h.ballot_is))

  module _ (s e : ℕ) (b : Ballot) (c : Membership) (ks : List ℕ) (keep : Keeps w s e b c ks) (many : is_majority w.acceptors (length ks) ≡ true) where
    -- an acceptor that kept, and told in a higher ballot, told of what it kept or of something later
    covered : (b' : Ballot) (x : Option Accepted) (a : ℕ) → Lt b b' → WasKept w s e b a → HasTold w s e b' x a → Covers x b
    covered b' x a l k t =
        let f : ToldFits w t.sent t.pair = told_fits t.sent t.pair t.stands t.say_is in
        let at : place_from k.sent ≡ place_from t.sent = place_is _ _ _ _ _ _ (k.from_is ∙ sym t.from_is) (k.shard_is ∙ sym t.shard_is) (k.epoch_is ∙ sym t.epoch_is) in
        let lower : Lt k.sent.ballot t.sent.ballot =
        subst (λ (y : Ballot). Lt y t.sent.ballot) (sym k.ballot_is) (subst (λ (y : Ballot). Lt b y) (sym t.ballot_is) l) in
        let p : Covers t.pair k.sent.ballot = f.covers k.sent k.stands k.say_is at lower in
        let q : Covers x p.one.ballot = t.covered p.one p.is in
        record { one = q.one; is = q.is; above = le_trans b p.one.ballot q.one.ballot (subst (λ (y : Ballot). Le y p.one.ballot) k.ballot_is p.above) q.above }

    -- what a higher ballot puts, if all ballots between carry the chosen configuration
    carried_once : (b' : Ballot) (c' : Membership) → Lt b b' → WasPut w s e b' c'
        → ((x : Ballot) (d : Membership) → Lt x b' → Lt b x → WasPut w s e x d → d ≡ c) → c' ≡ c
    carried_once b' c' l h between = greatest_is (covered b' safe.greatest meet.one l (keep.each meet.one meet.right) (safe.heard.each meet.one meet.left))
      where
        safe : Safe w s e b' c'
        safe = safe_of s e b' c' h

        meet : Common safe.told ks
        meet = majorities_meet safe.told ks w.acceptors safe.heard.distinct keep.distinct
            (told_within s e b' safe.told safe.greatest safe.heard) (keepers_within s e b c ks keep) safe.many many

        greatest_is : Covers safe.greatest b → c' ≡ c
        greatest_is k =
            let put : WasPut w s e k.one.ballot k.one.config = safe.heard.put k.one k.is in
            safe.value k.one k.is ∙ elim (le_split b k.one.ballot k.above) [
              | inl higher ↦ between k.one.ballot k.one.config (safe.heard.below k.one k.is) higher put
              | inr same ↦ one_of_a_ballot s e s e b k.one.ballot c k.one.config keep.put put same
            ]

    -- the ballots of one round, by their proposers
    in_round : (n : ℕ) → ((x : Ballot) (d : Membership) → x.round < n → Lt b x → WasPut w s e x d → d ≡ c)
        → (k : ℕ) (x : Ballot) (d : Membership) → x.round ≡ n → x.proposer < k → Lt b x → WasPut w s e x d → d ≡ c
    in_round n lower zero x d r p l h = absurd (omega arith)
    in_round n lower (suc k) x d r p l h = carried_once x d l h (λ y f m o q. elim m [
      | inl v ↦ lower y f (omega arith) o q
      | inr v ↦ in_round n lower k y f (v.0 ∙ r) (omega arith) o q
    ])

    -- the ballots below a round
    below_round : (n : ℕ) (x : Ballot) (d : Membership) → x.round < n → Lt b x → WasPut w s e x d → d ≡ c
    below_round zero x d r l h = absurd (omega arith)
    below_round (suc n) x d r l h = elim (less_or_same x.round n r) [
      | inl v ↦ below_round n x d v l h
      | inr v ↦ in_round n (below_round n) (suc x.proposer) x d v (omega arith) l h
    ]

    pub carried : (x : Ballot) (d : Membership) → Lt b x → WasPut w s e x d → d ≡ c
    carried x d l h = below_round (suc x.round) x d (omega arith) l h

  -- two configurations of one shard and epoch that are chosen are equal
  pub chosen_agree : (x y : Membership) → Chosen w x → Chosen w y → x.shard ≡ y.shard → x.epoch ≡ y.epoch → x ≡ y
  chosen_agree x y h k s e = elim (lt_or_same h.ballot k.ballot) [
    | inl order ↦ elim order [
      | inl l ↦ sym (carried x.shard x.epoch h.ballot x h.keepers h.keep h.many k.ballot y l (moved y x k.ballot (sym s) (sym e) k.keep.put))
      | inr l ↦ carried y.shard y.epoch k.ballot y k.keepers k.keep k.many h.ballot x l (moved x y h.ballot s e h.keep.put)
    ]
    | inr same ↦ sym (one_of_a_ballot x.shard x.epoch y.shard y.epoch h.ballot k.ballot x y h.keep.put k.keep.put same)
  ]
    where
      moved : (u v : Membership) (b : Ballot) → u.shard ≡ v.shard → u.epoch ≡ v.epoch → WasPut w u.shard u.epoch b u → WasPut w v.shard v.epoch b u
      moved u v b p q z = record { sent = z.sent; stands = z.stands; say_is = z.say_is; ballot_is = z.ballot_is; shard_is = z.shard_is ∙ p; epoch_is = z.epoch_is ∙ q }
