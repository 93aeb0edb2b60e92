-- What a proposer hears: who told, and the greatest pair told.
use Rattle.std.proofs.Common.{◌≡◌, refl, sym, subst, ℕ, ◌&&◌, Bool, true, false, List, [], ◌∷◌, ◌++◌, Option, Some, None, ◌⊎◌, inl, inr, eqb-true}
use Rattle.std.specs.Prelude.{if◌then◌else◌}
use Rattle.tcs_terms.specs.Places.{Membership, is_among}
use Rattle.quorum_protocol.specs.declared.terms.Ballot.{Ballot}
use Rattle.quorum_protocol.specs.declared.terms.Accepted.{Accepted}
use Rattle.quorum_protocol.specs.declared.terms.Message.{Message}
use Rattle.quorum_protocol.specs.Ballots.{ballot_le}
use Rattle.quorum_protocol.specs.Rules.{Stage, greater, add_once, hear, is_of}
use Rattle.quorum_protocol.specs.World.{World}
use Rattle.quorum_protocol.proofs.BallotLaws.{Le, Lt, le_holds, le_fails, le_same, le_trans, lt_le}
use Rattle.quorum_protocol.proofs.Tables.{exact_ballot}
use Rattle.quorum_protocol.proofs.Standing.{stands_either, stands_among, distinct_push}
use Rattle.quorum_protocol.proofs.Invariant.{WasPut, WasKept, HasTold, Covers, Heard, Keeps}
use Rattle.quorum_protocol.proofs.Changing.{some_is, staged}

left_of : (a b : Bool) → (a && b) ≡ true → a ≡ true
left_of true b h = refl
left_of false b h = h

right_of : (a b : Bool) → (a && b) ≡ true → b ≡ true
right_of true b h = h
right_of false b h = absurd (cc h)

-- a message of an attempt has its shard, epoch and ballot
pub record OfAttempt (m : Message) (b : Ballot) (c : Membership) : Type 0 where
  pub shard_is : m.shard ≡ c.shard
  pub epoch_is : m.epoch ≡ c.epoch
  pub ballot_is : m.ballot ≡ b

pub of_attempt : (m : Message) (b : Ballot) (c : Membership) (st : Stage) → is_of (staged b c st) m ≡ true → OfAttempt m b c
of_attempt m b c st h = record {
  shard_is = eqb-true m.shard c.shard (left_of _ _ (left_of _ _ h));
  epoch_is = eqb-true m.epoch c.epoch (right_of _ _ (left_of _ _ h));
  ballot_is = exact_ballot m.ballot b (right_of _ _ h);
}

-- ---- the greater of two pairs

higher : (x y : Accepted) (t : Bool) → ballot_le y.ballot x.ballot ≡ t → Covers (if t then Some x else Some y) x.ballot
higher x y true h = record { one = x; is = refl; above = le_same x.ballot }
higher x y false h = record { one = y; is = refl; above = lt_le x.ballot y.ballot (le_fails y.ballot x.ballot h) }

higher_too : (x y : Accepted) (t : Bool) → ballot_le y.ballot x.ballot ≡ t → Covers (if t then Some x else Some y) y.ballot
higher_too x y true h = record { one = x; is = refl; above = le_holds y.ballot x.ballot h }
higher_too x y false h = record { one = y; is = refl; above = le_same y.ballot }

greater_left : (f g : Option Accepted) (b : Ballot) → Covers f b → Covers (greater f g) b
greater_left None g b k = absurd (cc k.is)
greater_left (Some x) None b k = k
greater_left (Some x) (Some y) b k =
    let h : Covers (greater (Some x) (Some y)) x.ballot = higher x y (ballot_le y.ballot x.ballot) refl in
    let one : x ≡ k.one = some_is x k.one k.is in
    record { one = h.one; is = h.is; above = le_trans b x.ballot h.one.ballot (subst (λ (z : Accepted). Le b z.ballot) (sym one) k.above) h.above }

greater_right : (f g : Option Accepted) (y : Accepted) → g ≡ Some y → Covers (greater f g) y.ballot
greater_right None g y h = record { one = y; is = h; above = le_same y.ballot }
greater_right (Some x) None y h = absurd (cc h)
greater_right (Some x) (Some z) y h =
    subst (λ (u : Accepted). Covers (greater (Some x) (Some z)) u.ballot) (some_is z y h) (higher_too x z (ballot_le z.ballot x.ballot) refl)

either : (x y z : Accepted) (t : Bool) → (if t then Some x else Some y) ≡ Some z → (Some x ≡ Some z) ⊎ (Some y ≡ Some z)
either x y z true h = inl h
either x y z false h = inr h

greater_is : (f g : Option Accepted) (x : Accepted) → greater f g ≡ Some x → (f ≡ Some x) ⊎ (g ≡ Some x)
greater_is None g x h = inr h
greater_is (Some y) None x h = inl h
greater_is (Some y) (Some z) x h = either y z x (ballot_le z.ballot y.ballot) h

-- ---- an answer more

module _ (w : World) (s e : ℕ) (b : Ballot) (told : List ℕ) (greatest : Option Accepted) (heard : Heard w s e b told greatest)
    (from : ℕ) (pair : Option Accepted) (here : (x : Option Accepted) → ((y : Accepted) → pair ≡ Some y → Covers x y.ballot) → HasTold w s e b x from)
    (put : (x : Accepted) → pair ≡ Some x → WasPut w s e x.ballot x.config) (below : (x : Accepted) → pair ≡ Some x → Lt x.ballot b) where
  wider : (a : ℕ) → HasTold w s e b greatest a → HasTold w s e b (greater greatest pair) a
  wider a t = record {
    sent = t.sent;
    stands = t.stands;
    pair = t.pair;
    say_is = t.say_is;
    from_is = t.from_is;
    ballot_is = t.ballot_is;
    shard_is = t.shard_is;
    epoch_is = t.epoch_is;
    covered = λ x h. greater_left greatest pair x.ballot (t.covered x h);
  }

  one_more : is_among told from ≡ false → Heard w s e b (told ++ from ∷ []) (greater greatest pair)
  one_more n = record {
    distinct = distinct_push told from heard.distinct (stands_among told from n);
    each = λ a st. elim (stands_either told (from ∷ []) a st) [
      | inl o ↦ wider a (heard.each a o)
      | inr l ↦ elim l [
        | inl q ↦ subst (λ (z : ℕ). HasTold w s e b (greater greatest pair) z) (sym q) (here (greater greatest pair) (λ y h. greater_right greatest pair y h))
        | inr z ↦ absurd z
      ]
    ];
    put = λ x h. elim (greater_is greatest pair x h) [ inl g ↦ heard.put x g | inr g ↦ put x g ];
    below = λ x h. elim (greater_is greatest pair x h) [ inl g ↦ heard.below x g | inr g ↦ below x g ];
  }

  pub heard_more : Heard w s e b (add_once told from) (hear told greatest from pair)
  heard_more = go (is_among told from) refl
    where
      go : (t : Bool) → is_among told from ≡ t → Heard w s e b (if t then told else told ++ from ∷ []) (if t then greatest else greater greatest pair)
      go true h = heard
      go false h = one_more h

-- a keeper more
pub keeps_more : (w : World) (s e : ℕ) (b : Ballot) (c : Membership) (ks : List ℕ) → Keeps w s e b c ks → (from : ℕ) → WasKept w s e b from → Keeps w s e b c (add_once ks from)
keeps_more w s e b c ks k from kept = go (is_among ks from) refl
  where
    go : (t : Bool) → is_among ks from ≡ t → Keeps w s e b c (if t then ks else ks ++ from ∷ [])
    go true h = k
    go false h = record {
      put = k.put;
      distinct = distinct_push ks from k.distinct (stands_among ks from h);
      each = λ a st. elim (stands_either ks (from ∷ []) a st) [
        | inl o ↦ k.each a o
        | inr l ↦ elim l [ inl q ↦ subst (λ (z : ℕ). WasKept w s e b z) (sym q) kept | inr z ↦ absurd z ]
      ];
    }
